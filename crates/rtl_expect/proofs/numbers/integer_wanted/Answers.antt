use Rattle.std.proofs.Common.{◌≡◌, length, Some, sym, ap, ◌∙◌, rules}
use Rattle.std.specs.Prelude.{bytes_eq, codes}
use Rattle.std.proofs.lemmas.Bool.Decides.{same_from_decides}
use Rattle.std.proofs.lemmas.Slice.Eq.{bytes_eq-Decides}
use Rattle.vhdl_numbers.specs.TwosComplement.{signed_digits_of}
use Rattle.rtl_stim_lines.specs.Inputs.{small, integer_for}
use Rattle.rtl_expect.specs.Expected as spec
use Rattle.rtl_expect.proofs.Wanting.{number_said}
use Rattle.rtl_expect.proofs.numbers.integer_wanted.Goals as goal

pub returns : goal.returns
returns c =
    let nets = c.args.nets.now in
    let text = c.args.text.now in
    let is_none = same_from_decides c.eq_ignore_ascii_case.result (bytes_eq (small text) (codes "x")) c.eq_ignore_ascii_case.ensures.test (bytes_eq-Decides (small text) (codes "x")) in
    let found : integer_for c.args.least c.args.greatest text ≡ Some c.in-Some.number = search rules in
    let digits : c.digits_of-digits.result ≡ signed_digits_of (length nets) c.in-Some.number = search rules in
    number_said (spec.is_any text) (bytes_eq (small text) (codes "x")) (integer_for c.args.least c.args.greatest text) c.in-Some.number nets _
    (sym c.is_any.ensures ∙ c.if-is_any.false) (sym is_none ∙ c.if-eq_ignore_ascii_case.false) found
    (c.in_ok-values_wanted.ensures ∙ ap (spec.values_wanted nets) digits)
