use Rattle.std.proofs.Common.{arith}
use Rattle.vhdl_expand_operands.specs.Operands.{operand_view}
use Rattle.vhdl_expand_numbers.proofs.Widths.{short_to, long_to, made_along}
use Rattle.vhdl_expand_numbers.proofs.number.to_length.Goals as goal

pub returns-then-operand-len : goal.returns-then-operand-len
returns-then-operand-len c =
    let x = c.args.operand in
    made_along operand_view c.extended.result _ _ (short_to c.args.len x.width.len (operand_view x) x.counted c.if-operand-len.true) c.extended.ensures

pub returns-else-operand-len : goal.returns-else-operand-len
returns-else-operand-len c =
    let x = c.args.operand in
    made_along operand_view c.by_count.result _ _ (long_to c.args.len x.width.len (operand_view x) x.counted _ (omega arith) (omega arith)) c.by_count.ensures
