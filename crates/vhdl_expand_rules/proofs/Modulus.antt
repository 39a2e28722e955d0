-- Integers of 32 bits, and the modulus: the remainder with the sign of the divisor.
use mir.Syntax.{w32}
use mir.Val.{SFits, to_z, of_z}
use Rattle.std.proofs.Common.{◌≡◌, ℕ, Bool, true, false, if◌then◌else◌, nat_le, ℤ, Ok, ap, sym, ◌∙◌, arith}
use Rattle.std.proofs.lemmas.Int.{ints}
use Rattle.std.specs.Prelude.{◌==◌, int_rem, nat_abs}
use Rattle.vhdl_expand_rules.specs.declared.fault.ElabProblem.TheVariants.{StaticError}
use Rattle.vhdl_expand_rules.specs.Elab.{refused}
use Rattle.vhdl_expand_rules.specs.Integers.{checked_integer, division_with, modulus}
use Rattle.vhdl_expand_rules.specs.views.Integers.{with_sign}
use Rattle.vhdl_expand_rules.proofs.Steps.{given, ok}

-- an integer is the same behind its bits
pub same_word : (x : ℤ) → SFits w32 x → to_z w32 (of_z w32 x) ≡ x
same_word x h = omega (arith, ints)

was-checked : (at : ℕ) (q r : ℤ) → checked_integer at q ≡ Ok r → q ≡ r
was-checked at q r h = by (nat_le (nat_abs q) 2147483647) h
  where
    by : (t : Bool) → (if t then given q else refused StaticError at) ≡ Ok r → q ≡ r
    by true k = ok q r k
    by false k = absurd cc

module _ (at : ℕ) (x y : ℤ) where
  pub modulus_is : (r : ℤ) → division_with at int_rem x y ≡ Ok r → division_with at modulus x y ≡ checked_integer at (with_sign y r)
  modulus_is r h = by (nat_abs y == 0) h
    where
      by : (z : Bool) → (if z then refused StaticError at else checked_integer at (int_rem x y)) ≡ Ok r → (if z then refused StaticError at else checked_integer at (modulus x y)) ≡ checked_integer at (with_sign y r)
      by true k = absurd cc
      by false k = ap (λ q. checked_integer at (with_sign y q)) (was-checked at (int_rem x y) r k)

-- the same of integers that a call was given as others that are equal
pub modulus_returns : (at : ℕ) (x x' y y' y'' r r' m m' : ℤ) → x' ≡ x → y' ≡ y → y'' ≡ y → r' ≡ r → m' ≡ m
    → division_with at int_rem x' y' ≡ Ok r → checked_integer at (with_sign y'' r') ≡ Ok m → division_with at modulus x y ≡ given m'
modulus_returns at x x' y y' y'' r r' m m' ex ey ey' er em h k =
    ap (λ q. division_with at modulus q y) (sym ex) ∙ ap (λ q. division_with at modulus x' q) (sym ey) ∙ modulus_is at x' y' r h
    ∙ ap (λ q. checked_integer at (with_sign q r)) (ey ∙ sym ey') ∙ ap (λ q. checked_integer at (with_sign y'' q)) (sym er) ∙ k ∙ ap given (sym em)
