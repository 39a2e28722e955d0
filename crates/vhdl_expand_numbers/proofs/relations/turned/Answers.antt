use Rattle.std.proofs.Common.{◌-◌, length, ap, ◌∙◌, arith}
use Rattle.std.proofs.lemmas.List.{length-replicate}
use Rattle.vhdl_values.specs.declared.scalar.Nine.TheVariants.{Zero}
use Rattle.rtl_model.specs.bodies.Fits.{width}
use Rattle.vhdl_expand_rules.specs.Computed.{top_digit}
use Rattle.vhdl_expand_operands.specs.Operands.{operand_view}
use Rattle.vhdl_expand_numbers.proofs.Widths.{width_extended}
use Rattle.vhdl_expand_numbers.proofs.relations.turned.Goals as goal

pub operated-requires-clause-operands : goal.operated-requires-clause-operands
unfolding top_digit
operated-requires-clause-operands c =
    let long = ap width c.in_ok-digits.ensures ∙ width_extended c.args.len (operand_view c.args.operand) in
    let sign = ap width c.constant-sign.ensures ∙ ap length c.top_digit.ensures in
    let zeros = length-replicate (c.args.len - 1) Zero in
    omega (arith, long, sign, zeros, c.in_ok-digits.digits.counted, c.constant-sign.result.counted, c.requires.some)
