use Rattle.std.proofs.Common.{◌≡◌, drop}
use Rattle.vhdl_expand_rules.specs.Aggregates.{greatest_of}
use Rattle.vhdl_expand_operands.proofs.indexes.greatest_of.Given as goal

-- the greatest of all is that of the greatest so far and those that are left
abbrev pub invariant-loop-number : goal.invariant-loop-number
invariant-loop-number l = greatest_of l.first l.others ≡ greatest_of l.greatest (drop l.number-index l.others)
