use Rattle.std.proofs.Common.{◌-◌, ◌++◌, ap, ◌∙◌, arith, append_assoc}
use Rattle.rtl_vcd_values.specs.Values.{binary}
use Rattle.rtl_vcd_values.proofs.Binaries.{first_digit}
use Rattle.rtl_vcd.proofs.positions.+push_digits.Goals as goal

pub returns-clause-digits : goal.returns-clause-digits
returns-clause-digits t c =
    let page = c.args.page.now in
    let digits = c.args.digits in
    let number = c.args.number in
    c.push_digits.ensures.digits ∙ ap (λ t. t ++ binary (digits - 1) number) c.push.ensures
    ∙ append_assoc page _ (binary (digits - 1) number)
    ∙ ap (λ t. page ++ t) (first_digit digits number (omega (arith, c.if-digits-eq0.false)))
