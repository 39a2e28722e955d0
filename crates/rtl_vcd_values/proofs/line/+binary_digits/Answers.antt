use Rattle.std.proofs.Common.{arith}
use Rattle.rtl_vcd_values.proofs.Digits.{binary_step, binary_short}
use Rattle.rtl_vcd_values.proofs.line.+binary_digits.Goals as goal

pub returns-clause-digits : goal.returns-clause-digits
returns-clause-digits t c = omega (arith, c.binary_digits.ensures.digits, binary_step c.args.number c.if-number-lt2.false)

pub returns-clause-most : goal.returns-clause-most
returns-clause-most t c =
    omega (arith, c.binary_digits.ensures.digits, binary_step c.args.number c.if-number-lt2.false, binary_short c.args.number c.ranges.number.fits)
