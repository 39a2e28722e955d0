-- A power of the definitions is that of the code.
use mir.Syntax.{w32}
use mir.Val.{SFits}
use Rattle.std.proofs.Common.{◌≡◌, ℕ, zero, suc, ◌*◌, ◌%◌, ◌^◌, ◌≤◌, Bool, true, false, cond, not, if◌then◌else◌, nat_le, ℤ, Option, Some, None, Result, Ok, refl, sym, ap, ◌∙◌, subst, arith}
use Rattle.std.specs.Prelude.{pos, negsuc, neg_ℤ, ◌*ℤ◌, ◌==◌, nat_abs, SomeIff}
use Rattle.std.specs.Int.{int_pow}
use Rattle.std.proofs.Math.Nat.{pow-zero, pow-succ', mul-zero}
use Rattle.std.proofs.lemmas.Bool.{leb-true}
use Rattle.std.proofs.lemmas.Bool.Decides.{nat_tests}
use Rattle.vhdl_expand_rules.specs.declared.fault.ElabFault.{ElabFault}
use Rattle.vhdl_expand_rules.specs.declared.fault.ElabProblem.TheVariants.{StaticError}
use Rattle.vhdl_expand_rules.specs.Elab.{Elab, refused}
use Rattle.vhdl_expand_rules.specs.Integers.{checked_integer, power}
use Rattle.vhdl_expand_rules.specs.views.Integers.{Computes, in_range}

-- the sign turns with each factor
parity : (n : ℕ) → (suc n % 2 == 0) ≡ not (n % 2 == 0)
parity n = grind (arith, nat_tests)

turned : (a : ℕ) (even : Bool) (m : ℕ) → negsuc a *ℤ cond even (pos m) (neg_ℤ (pos m)) ≡ cond (not even) (pos (suc a * m)) (neg_ℤ (pos (suc a * m)))
turned a true m = refl
turned a false zero = ap (λ (x : ℕ). neg_ℤ (pos x)) (mul-zero (suc a)) ∙ sym (ap pos (mul-zero (suc a)))
turned a false (suc m) = refl

pub power-is : (x : ℤ) (n : ℕ) → power x n ≡ int_pow x n
power-is (pos a) zero = ap pos (sym (pow-zero a))
power-is (pos a) (suc n) = ap (λ z. pos a *ℤ z) (power-is (pos a) n) ∙ sym (ap pos (pow-succ' a n))
power-is (negsuc a) zero = ap pos (sym (pow-zero (suc a)))
power-is (negsuc a) (suc n) =
    ap (λ z. negsuc a *ℤ z) (power-is (negsuc a) n) ∙ turned a (n % 2 == 0) (suc a ^ n)
    ∙ ap (λ (m : ℕ). cond (not (n % 2 == 0)) (pos m) (neg_ℤ (pos m))) (sym (pow-succ' (suc a) n))
    ∙ sym (ap (λ t. cond t (pos (suc a ^ suc n)) (neg_ℤ (pos (suc a ^ suc n)))) (parity n))

-- ---- what fits a word, or else is refused

fits : (z : ℤ) → nat_abs z ≤ 2147483647 → SFits w32 z
fits (pos n) h = record { sfits = omega arith }
fits (negsuc n) h = record { sfits = omega arith }

too_great : (at : ℕ) (z : ℤ) → ¬ SFits w32 z → checked_integer at z ≡ refused StaticError at
too_great at z none = ap (λ t. if t then Ok z else refused StaticError at) (by (nat_le (nat_abs z) 2147483647) refl)
  where
    by : (t : Bool) → nat_le (nat_abs z) 2147483647 ≡ t → nat_le (nat_abs z) 2147483647 ≡ false
    by true e = absurd (none (fits z (leb-true _ _ e)))
    by false e = e

of_fitting : (at : ℕ) (z : ℤ) (given : Option ℤ) (r : Result ℤ ElabFault) → SomeIff given (SFits w32 z) z → Computes (in_range at given) r → Computes (checked_integer at z) r
of_fitting at z None r h k = subst (λ (q : Elab ℤ). Computes q r) (sym (too_great at z h)) k
of_fitting at z (Some x) r h k = subst (λ (y : ℤ). Computes (checked_integer at y) r) h.1 k

pub power-given : (at : ℕ) (x : ℤ) (n : ℕ) (given : Option ℤ) (r : Result ℤ ElabFault) → SomeIff given (SFits w32 (int_pow x n)) (int_pow x n) → Computes (in_range at given) r
    → Computes (checked_integer at (power x n)) r
power-given at x n given r h k = subst (λ (z : ℤ). Computes (checked_integer at z) r) (sym (power-is x n)) (of_fitting at (int_pow x n) given r h k)
