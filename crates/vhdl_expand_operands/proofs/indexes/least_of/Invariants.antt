use Rattle.std.proofs.Common.{◌≡◌, drop}
use Rattle.vhdl_expand_rules.specs.Aggregates.{least_of}
use Rattle.vhdl_expand_operands.proofs.indexes.least_of.Given as goal

-- the least of all is that of the least so far and those that are left
abbrev pub invariant-loop-number : goal.invariant-loop-number
invariant-loop-number l = least_of l.first l.others ≡ least_of l.least (drop l.number-index l.others)
