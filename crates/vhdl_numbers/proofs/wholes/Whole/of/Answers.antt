use Rattle.std.proofs.Common.{ap, sym, refl, Some}
use Rattle.vhdl_values.proofs.Digits.{is_number, number_of_below}
use Rattle.vhdl_numbers.proofs.Digits.{no_number}
use Rattle.vhdl_numbers.proofs.wholes.Whole.of.Goals as goal

pub in_digits-requires-clause-digits : goal.in_digits-requires-clause-digits
in_digits-requires-clause-digits c =
    let good = is_number c.args.vector.now c.in-Some.number c.in-Some.ensures in
    rw (good.1, c.len.ensures.len) (number_of_below c.args.vector.now)

pub returns-in-Some-clause-number : goal.returns-in-Some-clause-number
returns-in-Some-clause-number c =
    let good = is_number c.args.vector.now c.in-Some.number c.in-Some.ensures in
    rw good.0 (ap Some (c.in_digits.ensures.number c.args.vector.now (sym c.len.ensures.len) (sym good.1)))

pub returns-in-None-clause-number : goal.returns-in-None-clause-number
returns-in-None-clause-number c = rw (no_number _ _ c.in-None.ensures) refl
