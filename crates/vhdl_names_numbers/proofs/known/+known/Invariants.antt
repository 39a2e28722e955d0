use Rattle.std.proofs.Common.{◌≡◌, drop}
use Rattle.std.specs.List.{list_all}
use Rattle.vhdl_names_rules.specs.Known.{are_known}
use Rattle.vhdl_names_trees.specs.views.Vectors.{elements_view}
use Rattle.vhdl_names_numbers.specs.Knowing.{link_is_known}
use Rattle.vhdl_names_numbers.proofs.known.+known.Given as goal

-- the operands so far name none
abbrev pub invariant-links_are_known-loop-link : goal.invariant-links_are_known-loop-link
invariant-links_are_known-loop-link l = list_all link_is_known l.links ≡ list_all link_is_known (drop l.link-index l.links)

-- the elements so far name none, and are for others than all others
abbrev pub invariant-are_known-loop-element : goal.invariant-are_known-loop-element
invariant-are_known-loop-element l = are_known (elements_view l.elements) ≡ are_known (elements_view (drop l.element-index l.elements))
