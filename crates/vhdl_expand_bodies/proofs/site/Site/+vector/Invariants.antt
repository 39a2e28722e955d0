use Rattle.std.proofs.Common.{◌≡◌, [], map, drop}
use Rattle.std.specs.Prelude.{option_map}
use Rattle.vhdl_names_trees.specs.views.Vectors.{computed_view, elements_view}
use Rattle.vhdl_expand_rules.specs.Expressions.{elements, measured}
use Rattle.vhdl_expand_operands.specs.Placings.{indexes_view, placed_view}
use Rattle.vhdl_expand_operands.proofs.Several.{behind}
use Rattle.vhdl_expand_operands.specs.Operands.{chain_view}
use Rattle.vhdl_expand_numbers.specs.Views.{number_view, measured_view}
use Rattle.vhdl_expand_bodies.specs.Sites.{site_view}
use Rattle.vhdl_expand_bodies.specs.steps.Chains.{chained}
use Rattle.vhdl_expand_bodies.specs.steps.Computed as numbers
use Rattle.vhdl_expand_bodies.specs.steps.Vectors as steps
use Rattle.vhdl_expand_bodies.proofs.site.Site.+vector.Given as goal

-- the operators that are left, on the expression so far, give the whole
abbrev pub invariant-add_links-loop-link : goal.invariant-add_links-loop-link
invariant-add_links-loop-link l =
    chained (steps.linked (site_view l.self)) (chain_view l.fn.chain) l.links ≡ chained (steps.linked (site_view l.self)) (chain_view l.chain) (drop l.link-index l.links)

-- the elements so far, and those that are left behind what is taken
abbrev pub invariant-placed_elements-loop-element : goal.invariant-placed_elements-loop-element
invariant-placed_elements-loop-element l =
    elements (site_view l.self) l.fn.at (option_map indexes_view l.all) [] (elements_view l.elements)
    ≡ behind (map placed_view l.placed.items) (elements (site_view l.self) l.fn.at (option_map indexes_view l.all) l.taken.items (elements_view (drop l.element-index l.elements)))

-- the operators that are left, on the number so far, give the whole
abbrev pub invariant-all_linked-loop-link : goal.invariant-all_linked-loop-link
invariant-all_linked-loop-link l =
    chained (numbers.linked (site_view l.self)) (number_view l.fn.first) l.links ≡ chained (numbers.linked (site_view l.self)) (number_view l.done) (drop l.link-index l.links)

abbrev pub invariant-measured-loop-link : goal.invariant-measured-loop-link
invariant-measured-loop-link l =
    measured (site_view l.self) l.fn.at (computed_view l.integer) ≡ chained (numbers.measured_linked (site_view l.self)) (measured_view l.done) (drop l.link-index l.link-items)
