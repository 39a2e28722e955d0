-- The first number of a range that passes, or 64.
use Rattle.std.proofs.Common.{◌≡◌, ◌≢◌, ℕ, zero, suc, ◌+◌, ◌<◌, ◌≤◌, ◌⊎◌, inl, inr, Bool, true, false, cond, Some, refl, sym, ap, ◌∙◌, arith}
use Rattle.std.specs.Prelude.{find, unwrap_or}
use Rattle.std.specs.List.{range_with_len}
use Rattle.std.proofs.lemmas.Bool.{both_ways, cases_eq}
use Rattle.rtl_model.specs.bodies.Fits.{IsWidth}

unfoldable pub first_passing : (p : ℕ → Bool) (from len : ℕ) → ℕ
first_passing p from len = unwrap_or (find p (range_with_len from len)) 64

apart : (p : ℕ → Bool) (m k : ℕ) → p m ≡ false → p k ≡ true → m ≤ k → m + 1 ≤ k
apart p m k e t l = by (cases_eq m k)
  where
    by : (m ≡ k) ⊎ (m ≢ k) → m + 1 ≤ k
    by (inl same) = absurd (both_ways (p k) (sym (ap p same) ∙ e) t)
    by (inr other) = omega (arith, l, other)

pub first_by : (p : ℕ → Bool) (len from k : ℕ) → from ≤ k → k < from + len → p k ≡ true → first_passing p from len ≤ k
unfolding first_passing
first_by p zero from k l h t = absurd (omega (arith, l, h))
first_by p (suc len) from k l h t = by (p from) (λ e. first_by p len (from + 1) k (apart p from k e t l) (omega (arith, h)) t)
  where
    by : (b : Bool) → (b ≡ false → unwrap_or (find p (range_with_len (from + 1) len)) 64 ≤ k) → unwrap_or (cond b (Some from) (find p (range_with_len (from + 1) len))) 64 ≤ k
    by true behind = l
    by false behind = behind refl

pub first_passes : (p : ℕ → Bool) (len from k : ℕ) → from ≤ k → k < from + len → p k ≡ true → p (first_passing p from len) ≡ true
unfolding first_passing
first_passes p zero from k l h t = absurd (omega (arith, l, h))
first_passes p (suc len) from k l h t = by (p from) refl (λ e. first_passes p len (from + 1) k (apart p from k e t l) (omega (arith, h)) t)
  where
    by : (b : Bool) → p from ≡ b → (b ≡ false → p (unwrap_or (find p (range_with_len (from + 1) len)) 64) ≡ true) → p (unwrap_or (cond b (Some from) (find p (range_with_len (from + 1) len))) 64) ≡ true
    by true e behind = e
    by false e behind = behind refl

pub first_within : (p : ℕ → Bool) (len from : ℕ) → 1 ≤ from → from + len ≤ 65 → IsWidth (first_passing p from len)
unfolding first_passing
first_within p zero from l h = (omega arith, omega arith)
first_within p (suc len) from l h = by (p from) (first_within p len (from + 1) (omega (arith, l)) (omega (arith, h)))
  where
    by : (b : Bool) → IsWidth (unwrap_or (find p (range_with_len (from + 1) len)) 64) → IsWidth (unwrap_or (cond b (Some from) (find p (range_with_len (from + 1) len))) 64)
    by true behind = (l, omega (arith, h))
    by false behind = behind
