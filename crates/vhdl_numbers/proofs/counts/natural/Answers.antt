use Rattle.std.proofs.Common.{◌≢◌, ◌/◌, ◌-◌, ◌^◌, length, refl}
use Rattle.vhdl_values.specs.Numbers.{number_of}
use Rattle.vhdl_values.proofs.Digits.{is_number}
use Rattle.vhdl_numbers.proofs.Digits.{is_below_zero}
use Rattle.vhdl_numbers.proofs.counts.natural.Goals as goal

pub returns-else-number-len-eq0 : goal.returns-else-number-len-eq0
returns-else-number-len-eq0 c =
    let vs = c.args.vector.now in
    let good = is_number vs c.in-Some.number c.in-Some.ensures in
    let ne : number_of vs / 2 ^ (length vs - 1) ≢ 0 = rw (← good.1, ← c.len.ensures.len) c.if-number-len-eq0.false in
    rw (good.0, is_below_zero vs c.len.ensures.some ne) refl
