use Rattle.std.proofs.Common.{◌≡◌, ◌-◌, suc, length, arith}
use Rattle.std.proofs.lemmas.Grind.{common_steps}
use Rattle.rtl_expect.proofs.Wholes.{last_is_x}
use Rattle.rtl_expect.proofs.numbers.no_number_wanted.Goals as goal

pub returns : goal.returns
returns c =
    let nets = c.args.nets.now in
    let some : length nets ≡ suc (length nets - 1) = omega arith in
    let whole = last_is_x nets (length nets - 1) some in
    first_of (cc, grind (arith, common_steps))
