use Rattle.std.proofs.Common.{◌≡◌, drop}
use Rattle.std.specs.List.{list_any}
use Rattle.vhdl_expand_rules.specs.Aggregates.{is_among}
use Rattle.vhdl_expand_operands.proofs.indexes.is_any_among.Given as goal

-- one of those that are left is among the others, if one of all is
abbrev pub invariant-loop-number : goal.invariant-loop-number
invariant-loop-number l = list_any (is_among l.others) l.numbers ≡ list_any (is_among l.others) (drop l.number-index l.numbers)
