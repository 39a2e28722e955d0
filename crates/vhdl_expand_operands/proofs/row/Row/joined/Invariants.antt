use Rattle.std.proofs.Common.{map}
use Rattle.vhdl_expand_rules.specs.Aggregates.{joined_all}
use Rattle.vhdl_expand_operands.specs.Operands.{operand_view, chain_view}
use Rattle.vhdl_expand_operands.proofs.Rows.{Joins}
use Rattle.vhdl_expand_operands.proofs.row.Row.joined.Given as goal

-- those that are joined, and those that are left
abbrev pub invariant-loop-operand : goal.invariant-loop-operand
invariant-loop-operand l = Joins (joined_all l.fn.at (map operand_view l.fn.self.operands.items)) (chain_view l.chain) (map operand_view l.operand-iterator.rest.items)
