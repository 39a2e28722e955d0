use Rattle.std.proofs.Common.{drop}
use Rattle.vhdl_names_trees.specs.views.Vectors.{elements_view}
use Rattle.vhdl_expand_rules.specs.Prefixes.{elements_names}
use Rattle.vhdl_expand_processes.specs.Names.{computed_link_names, link_names}
use Rattle.vhdl_expand_processes.proofs.Gathering.{Left, LeftOf}
use Rattle.vhdl_expand_processes.proofs.names.+vectors.Given as goal

-- those so far, and those that are left
abbrev pub invariant-of_links-loop-item : goal.invariant-of_links-loop-item
invariant-of_links-loop-item l = Left link_names l.fn.found l.list l.found (drop l.item-index l.list)

abbrev pub invariant-of_computed_links-loop-item : goal.invariant-of_computed_links-loop-item
invariant-of_computed_links-loop-item l = Left computed_link_names l.fn.found l.list l.found (drop l.item-index l.list)

-- the same of the elements of an aggregate, of which one may be the last
abbrev pub invariant-of_elements-loop-item : goal.invariant-of_elements-loop-item
invariant-of_elements-loop-item l = LeftOf (λ xs. elements_names (elements_view xs)) l.fn.found l.list l.found (drop l.item-index l.list)
