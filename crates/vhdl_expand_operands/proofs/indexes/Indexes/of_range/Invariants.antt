use Rattle.std.proofs.Common.{◌≡◌, ◌++◌, drop}
use Rattle.vhdl_expand_rules.specs.Integers.{numbers_from}
use Rattle.vhdl_expand_operands.proofs.indexes.Indexes.of_range.Given as goal

-- those so far, and those that are left
abbrev pub invariant-loop-turn : goal.invariant-loop-turn
invariant-loop-turn l =
    l.numbers.items ++ drop l.turn (numbers_from l.turns.direction l.turns.first l.turns.count) ≡ numbers_from l.turns.direction l.turns.first l.turns.count
