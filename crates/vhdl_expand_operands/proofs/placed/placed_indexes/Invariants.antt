use Rattle.std.proofs.Common.{◌≡◌, ◌++◌, map, drop}
use Rattle.vhdl_expand_rules.specs.Aggregates.{placed_indexes}
use Rattle.vhdl_expand_operands.specs.Placings.{placed_view}
use Rattle.vhdl_expand_operands.proofs.placed.placed_indexes.Given as goal

-- those so far, and those that are left
abbrev pub invariant-loop-item : goal.invariant-loop-item
invariant-loop-item l =
    placed_indexes (map placed_view l.placed) ≡ l.found.items ++ placed_indexes (map placed_view (drop l.item-index l.placed))
