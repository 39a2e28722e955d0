use Rattle.std.proofs.Common.{◌≡◌, true, List, sym, ap, ◌∙◌, subst, arith, w32, w64, of_z, to_z}
use Rattle.std.specs.Prelude.{ℤ}
use Rattle.std.proofs.lemmas.Bool.{and_from}
use Rattle.std.proofs.lemmas.Int.{ints, to_z-of_z}
use Rattle.vhdl_values.specs.declared.scalar.Nine.{Nine}
use Rattle.vhdl_numbers.specs.TwosComplement.{signed_digits_of}
use Rattle.rtl_model.specs.bodies.Body as bodies
use Rattle.rtl_model.specs.bodies.Fits.{width}
use Rattle.vhdl_expand_rules.specs.Computed.{span, integers, has, covers, digits_needed}
use Rattle.vhdl_expand_rules.proofs.laws.Computed.{digits_are_few}
use Rattle.vhdl_expand_rules.proofs.Digits.{word_has}
use Rattle.vhdl_expand_numbers.proofs.Widths.{number_of}
use Rattle.vhdl_expand_numbers.proofs.Known.{known_is}
use Rattle.vhdl_expand_numbers.proofs.bounded.Number.known.Goals as goal

inside : (x : ℤ) → has integers x ≡ true → covers integers (span x x) ≡ true
inside x h = and_from (has integers x) (has integers x) h h

pub invariant_of-result : goal.invariant_of-result
invariant_of-result c =
    let x = c.args.number in
    let is = c.from-bound.ensures ∙ to_z-of_z w32 x c.ranges.number in
    let v : to_z w64 (of_z w64 c.from-bound.result) ≡ x = omega (arith, ints) in
    let held = subst (λ (y : ℤ). covers integers (span y y) ≡ true) (sym v) (inside x (word_has x c.ranges.number)) in
    let long : c.constant.result.width.len ≡ c.digits.result = sym c.constant.result.counted ∙ ap width c.constant.ensures ∙ c.digits_of-digits.ensures.len in
    let few = digits_are_few (span (to_z w64 (of_z w64 c.from-bound.result)) (to_z w64 (of_z w64 c.from-bound.result))) held in
    record { held = held; narrow = omega (arith, long, few, c.digits.ensures.given) }

pub returns : goal.returns
returns c =
    let x = c.args.number in
    let is = c.from-bound.ensures ∙ to_z-of_z w32 x c.ranges.number in
    let v : to_z w64 (of_z w64 c.from-bound.result) ≡ x = omega (arith, ints) in
    let len = c.digits.ensures.given ∙ (λ i. digits_needed (span (v i) (v i))) in
    let w = to_z-of_z w32 x c.ranges.number in
    let digits = c.constant.ensures ∙ ap (λ (vs : List Nine). bodies.constant vs) (c.digits_of-digits.ensures.list ∙ (λ i. signed_digits_of (len i) (w i))) in
    (λ i. number_of (digits i) (span (v i) (v i))) ∙ sym (known_is x (inside x (word_has x c.ranges.number)))
