use Rattle.std.proofs.Common.{◌≡◌, ℕ, ◌++◌, true, false, Some, get_or, ap, sym, ◌∙◌, arith, rules}
use Rattle.std.proofs.lemmas.Bool.Decides.{nat_tests}
use Rattle.std.specs.Prelude.{◌==◌, not, filter, flat_map}
use Rattle.vhdl_lexer.specs.Bytes.{underscore}
use Rattle.vhdl_names_rules.specs.Literals as literals
use Rattle.vhdl_names_operators.specs.Steps.{class_of}
use Rattle.vhdl_names_operators.proofs.Characters.{all_digits, one_digit, no_digit}
use Rattle.vhdl_names_operators.proofs.literals.bits.Goals as goal
use Rattle.vhdl_names_operators.proofs.literals.bits.Goals.{then-digit-ne95+in_ok-push_digit, else-digit-ne95}

pub loop-digit-init : goal.loop-digit-init
loop-digit-init c =
    ap (λ vs. vs ++ flat_map (λ b. literals.bits_of (class_of c.args.base) (literals.digit_value b)) (filter (λ b. not (b == underscore)) c.args.digits.now)) (sym c.new-values.ensures.items)

pub loop-digit-preserved : goal.loop-digit-preserved
loop-digit-preserved c =
    let bits = λ (b : ℕ). literals.bits_of (class_of c.args.base) (literals.digit_value b) in
    let counts = λ (b : ℕ). not (b == underscore) in
    let xs = c.args.digits.now in
    let i = c.loop-digit.digit-index in
    elim c.if-digit-ne95.branch [
      | then-digit-ne95+in_ok-push_digit w ↦
          let is : not (get_or xs i 0 == underscore) ≡ true = first_of (search rules, grind (arith, nat_tests)) in
          one_digit bits counts _ c.loop-digit.values.items xs i c.loop-digit.invariant _ c.loop-digit-test.true is
          (ap (λ v. v.items) w.values-is ∙ w.in_ok-push_digit.ensures ∙ ap (λ d. c.loop-digit.values.items ++ literals.bits_of (class_of c.args.base) d) w.digit_value.ensures)
      | else-digit-ne95 w ↦
          let is : not (get_or xs i 0 == underscore) ≡ false = first_of (search rules, grind (arith, nat_tests)) in
          no_digit bits counts _ c.loop-digit.values.items xs i c.loop-digit.invariant _ c.loop-digit-test.true is (ap (λ v. v.items) w.values-is)
    ]

pub returns-clause-given : goal.returns-clause-given
returns-clause-given c =
    ap Some (all_digits (λ b. literals.bits_of (class_of c.args.base) (literals.digit_value b)) (λ b. not (b == underscore)) _ c.loop-digit.values.items c.args.digits.now c.loop-digit.digit-index c.loop-digit.invariant c.loop-digit-test.false)
