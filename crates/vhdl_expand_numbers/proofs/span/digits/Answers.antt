use Rattle.std.proofs.Common.{◌≡◌, ◌-◌, ◌<◌, ◌^◌, refl, arith, subst, sym, w64}
use Rattle.std.specs.Prelude.{ℕ}
use Rattle.std.proofs.lemmas.Int.{to_z-of_z}
use Rattle.vhdl_numbers.specs.Digits.{without_sign}
use Rattle.vhdl_expand_rules.proofs.Digits.{size_is}
use Rattle.vhdl_expand_numbers.proofs.Digits.{size_small, digits_hold, digits_fewest, digits_few}
use Rattle.vhdl_expand_numbers.proofs.span.digits.Goals as goal
use Rattle.vhdl_expand_numbers.proofs.span.digits.Goals.{After-from}

size-here : (c : After-from) → c.unsigned_abs.result - c.from.result ≡ without_sign c.args.number
size-here c =
    size_is c.args.number _ c.unsigned_abs.result c.from.result (to_z-of_z w64 c.args.number c.ranges.number) c.unsigned_abs.ensures.value c.from.ensures

pub returns-clause-enough : goal.returns-clause-enough
returns-clause-enough c =
    digits_hold c.args.number (c.unsigned_abs.result - c.from.result) _ _ (size-here c) (omega (arith, c.unsigned_abs.ensures.bound)) refl refl

pub returns-clause-fewest : goal.returns-clause-fewest
returns-clause-fewest c =
    digits_fewest c.args.number (c.unsigned_abs.result - c.from.result) _ _ (size-here c) (omega (arith, c.unsigned_abs.ensures.bound)) refl refl

pub returns-clause-few : goal.returns-clause-few
returns-clause-few c =
    digits_few c.args.number (c.unsigned_abs.result - c.from.result) _ _ (size-here c) (omega (arith, c.unsigned_abs.ensures.bound)) refl refl
    (subst (λ (n : ℕ). n < 2 ^ 63) (sym (size-here c)) (size_small c.args.number c.ranges.number))
