use Rattle.std.proofs.Common.{◌≡◌, map, drop}
use Rattle.vhdl_expand_rules.specs.Aggregates.{element_for}
use Rattle.vhdl_expand_operands.specs.Placings.{placed_view}
use Rattle.vhdl_expand_operands.proofs.placed.element_for.Given as goal

-- it is this element, or one behind it
abbrev pub invariant-loop-number : goal.invariant-loop-number
invariant-loop-number l = element_for 0 (map placed_view l.placed) l.index ≡ element_for l.number (map placed_view (drop l.number l.placed)) l.index
