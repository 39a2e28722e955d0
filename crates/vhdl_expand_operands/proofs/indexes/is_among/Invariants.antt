use Rattle.std.proofs.Common.{◌≡◌, drop}
use Rattle.std.specs.List.{list_any}
use Rattle.vhdl_expand_rules.specs.Aggregates.{are_same}
use Rattle.vhdl_expand_operands.proofs.indexes.is_among.Given as goal

-- it is among those that are left, if it is among all
abbrev pub invariant-loop-number : goal.invariant-loop-number
invariant-loop-number l = list_any (are_same l.x) l.numbers ≡ list_any (are_same l.x) (drop l.number-index l.numbers)
