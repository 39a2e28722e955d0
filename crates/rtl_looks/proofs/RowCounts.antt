-- How many rows lie in so many elements.
use Rattle.std.proofs.Common.{◌≡◌, ℕ, zero, suc, ◌+◌, ◌-◌, ◌/◌, ◌<◌, ◌≤◌, nat_le, if◌then◌else◌, Bool, true, false, cond, Option, Some, None, sym, ap, arith, div-le_self}
use Rattle.std.specs.Prelude.{unwrap_or, SomeIff}
use Rattle.std.proofs.lemmas.Bool.{le-leb, lt-leb}
use Rattle.std.proofs.Math.Nat.{div-zero}
use Rattle.rtl_model.specs.bodies.Rows.{Spacing, row_count}

-- by a divisor that may be 0
pub quotient_is : (o : Option ℕ) (n d : ℕ) → SomeIff o (0 < d) (n / d) → unwrap_or o 0 ≡ n / d
quotient_is (Some q) n d h = h.1
quotient_is None n zero h = sym (div-zero n)
quotient_is None n (suc d) h = absurd (h (omega arith))

pub some_rows : (spacing : Spacing) (elements : ℕ) → spacing.len ≤ elements → (elements - spacing.len) / spacing.step + 1 ≡ row_count spacing elements
some_rows spacing elements l = sym (ap (λ (b : Bool). if b then (elements - spacing.len) / spacing.step + 1 else 0) (le-leb spacing.len elements l))

pub no_rows : (spacing : Spacing) (elements : ℕ) → elements < spacing.len → 0 ≡ row_count spacing elements
no_rows spacing elements l = sym (ap (λ (b : Bool). if b then (elements - spacing.len) / spacing.step + 1 else 0) (lt-leb spacing.len elements l))

-- no more of them than of elements, but that of no element there may be one row
pub few_rows : (spacing : Spacing) (elements : ℕ) → row_count spacing elements ≤ elements + 1
few_rows spacing elements = go (nat_le spacing.len elements)
  where
    go : (b : Bool) → cond b ((elements - spacing.len) / spacing.step + 1) 0 ≤ elements + 1
    go true = omega (arith, div-le_self (elements - spacing.len) spacing.step)
    go false = omega arith
