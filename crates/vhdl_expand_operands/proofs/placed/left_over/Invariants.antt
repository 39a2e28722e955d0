use Rattle.std.proofs.Common.{◌≡◌, map, drop}
use Rattle.vhdl_expand_rules.specs.Aggregates.{left_over}
use Rattle.vhdl_expand_operands.specs.Placings.{placed_view}
use Rattle.vhdl_expand_operands.proofs.placed.left_over.Given as goal

-- it stands among those that are left
abbrev pub invariant-loop-item : goal.invariant-loop-item
invariant-loop-item l = left_over (map placed_view l.placed) ≡ left_over (map placed_view (drop l.item-index l.placed))
