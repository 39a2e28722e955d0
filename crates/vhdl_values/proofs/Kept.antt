-- Four words keep a list: what the type's invariant and its view say of the words, as one fact that composes.
use Rattle.std.proofs.Common.{◌≡◌, ℕ, zero, suc, ◌+◌, ◌-◌, ◌*◌, ◌%◌, ◌^◌, ◌<◌, ◌≤◌, Bool, true, false, List, [], ◌∷◌, length, refl, sym, ap, ◌∙◌, arith, Some}
use Rattle.std.specs.Prelude.{slice_get}
use Rattle.std.specs.Int.{bit_at}
use Rattle.std.proofs.lemmas.Bool.{cases_lt}
use Rattle.std.specs.Bool.{Decides}
use Rattle.std.specs.Prelude.{◌&&◌, ◌==◌}
use Rattle.std.proofs.lemmas.Bool.Decides.{Decides-and, Decides-like, Decides-eqb}
use Rattle.std.proofs.Common.{inl, inr}
use Rattle.std.proofs.lemmas.Nat.{shr_high}
use Rattle.std.proofs.lemmas.Nat.Bits.{bit_at_cat_low}
use Rattle.vhdl_values.specs.declared.scalar.Nine.{Nine}
use Rattle.vhdl_values.specs.declared.scalar.Nine.TheVariants.{U}
use Rattle.vhdl_values.specs.Scalar.{code_of, value_of_code}
use Rattle.vhdl_values.specs.Planes.{bit, marks, has_bit, plane_of, code_at, values_at, IsPlanes, length-values_at, plane_of-first, plane_of-second, plane_of-third, plane_of-fourth}
use Rattle.vhdl_values.proofs.Marks.{marks_below}
use Rattle.vhdl_values.proofs.Codes.{value_of_code-code_of, code_of_below}

-- these words and this length keep that list
pub record IsKept (vs : List Nine) (len a b c d : ℕ) : Type 0 where
  pub same : len ≡ length vs
  pub some : 1 ≤ length vs
  pub room : length vs ≤ 64
  pub first : a ≡ plane_of 0 vs
  pub second : b ≡ plane_of 1 vs
  pub third : c ≡ plane_of 2 vs
  pub fourth : d ≡ plane_of 3 vs

-- the bit on top of a word
bit_at-top : (b : Bool) (n w : ℕ) → w < 2 ^ n → bit_at (bit b * 2 ^ n + w) n ≡ bit b
bit_at-top true n w lt = ap (λ m. m % 2) (shr_high 1 n w lt)
bit_at-top false n w lt = ap (λ m. m % 2) (shr_high 0 n w lt)

code_of-bits : (v : Nine) → bit (has_bit 0 v) + 2 * bit (has_bit 1 v) + 4 * bit (has_bit 2 v) + 8 * bit (has_bit 3 v) ≡ code_of v
code_of-bits U = refl
code_of-bits _ = refl

-- the code that a list's planes have at a place
code_in : List Nine → ℕ → ℕ
code_in vs k = code_at (plane_of 0 vs) (plane_of 1 vs) (plane_of 2 vs) (plane_of 3 vs) k

code_in-top : (v : Nine) (vs : List Nine) → code_in (v ∷ vs) (length vs) ≡ code_of v
unfolding code_in marks
code_in-top v vs =
    ap (λ n. n + 2 * bit_at (plane_of 1 (v ∷ vs)) (length vs) + 4 * bit_at (plane_of 2 (v ∷ vs)) (length vs) + 8 * bit_at (plane_of 3 (v ∷ vs)) (length vs)) (bit_at-top (has_bit 0 v) (length vs) (plane_of 0 vs) (marks_below (has_bit 0) vs))
    ∙ ap (λ n. bit (has_bit 0 v) + 2 * n + 4 * bit_at (plane_of 2 (v ∷ vs)) (length vs) + 8 * bit_at (plane_of 3 (v ∷ vs)) (length vs)) (bit_at-top (has_bit 1 v) (length vs) (plane_of 1 vs) (marks_below (has_bit 1) vs))
    ∙ ap (λ n. bit (has_bit 0 v) + 2 * bit (has_bit 1 v) + 4 * n + 8 * bit_at (plane_of 3 (v ∷ vs)) (length vs)) (bit_at-top (has_bit 2 v) (length vs) (plane_of 2 vs) (marks_below (has_bit 2) vs))
    ∙ ap (λ n. bit (has_bit 0 v) + 2 * bit (has_bit 1 v) + 4 * bit (has_bit 2 v) + 8 * n) (bit_at-top (has_bit 3 v) (length vs) (plane_of 3 vs) (marks_below (has_bit 3) vs))
    ∙ code_of-bits v

code_in-low : (v : Nine) (vs : List Nine) (k : ℕ) → k < length vs → code_in (v ∷ vs) k ≡ code_in vs k
unfolding code_in marks
code_in-low v vs k lt =
    let p = bit_at_cat_low (bit (has_bit 0 v)) (length vs) (plane_of 0 vs) k lt in
    let q = bit_at_cat_low (bit (has_bit 1 v)) (length vs) (plane_of 1 vs) k lt in
    let r = bit_at_cat_low (bit (has_bit 2 v)) (length vs) (plane_of 2 vs) k lt in
    let s = bit_at_cat_low (bit (has_bit 3 v)) (length vs) (plane_of 3 vs) k lt in
    rw (p, q, r, s) refl

code_in_below : (vs : List Nine) (k : ℕ) → k < length vs → code_in vs k < 9
code_in_below [] k lt = absurd (omega arith)
code_in_below (v ∷ vs) k lt = elim (cases_lt k (length vs)) [
  | inl low ↦ rw (code_in-low v vs k low) (code_in_below vs k low)
  | inr high ↦ let top : k ≡ length vs = omega arith in rw (top, code_in-top v vs) (code_of_below v)
]

-- words of the same codes have the same values
pub values_at-like : (len a b c d p q r s : ℕ) → ((k : ℕ) → k < len → code_at a b c d k ≡ code_at p q r s k) → values_at len a b c d ≡ values_at len p q r s
unfolding values_at
values_at-like zero a b c d p q r s same = refl
values_at-like (suc k) a b c d p q r s same =
    ap (λ n. value_of_code n ∷ values_at k a b c d) (same k (omega arith))
    ∙ ap (λ vs. value_of_code (code_at p q r s k) ∷ vs) (values_at-like k a b c d p q r s (λ i lt. same i (omega arith)))

-- the planes of a list give it back
values_in : (vs : List Nine) → values_at (length vs) (plane_of 0 vs) (plane_of 1 vs) (plane_of 2 vs) (plane_of 3 vs) ≡ vs
unfolding values_at code_in
values_in [] = refl
values_in (v ∷ vs) =
    ap (λ n. value_of_code n ∷ values_at (length vs) (plane_of 0 (v ∷ vs)) (plane_of 1 (v ∷ vs)) (plane_of 2 (v ∷ vs)) (plane_of 3 (v ∷ vs))) (code_in-top v vs)
    ∙ ap (λ w. w ∷ values_at (length vs) (plane_of 0 (v ∷ vs)) (plane_of 1 (v ∷ vs)) (plane_of 2 (v ∷ vs)) (plane_of 3 (v ∷ vs))) (value_of_code-code_of v)
    ∙ ap (λ ws. v ∷ ws) (values_at-like (length vs) _ _ _ _ _ _ _ _ (λ k lt. code_in-low v vs k lt) ∙ values_in vs)

-- words that keep a list meet the invariant, and are seen as it
pub IsPlanes-kept : (vs : List Nine) (len a b c d : ℕ) → IsKept vs len a b c d → IsPlanes len a b c d
unfolding code_in
IsPlanes-kept vs len a b c d h = rw (h.same, h.first, h.second, h.third, h.fourth) record {
  some = h.some;
  room = h.room;
  codes = λ k lt. code_in_below vs k lt;
  first = marks_below (has_bit 0) vs;
  second = marks_below (has_bit 1) vs;
  third = marks_below (has_bit 2) vs;
  fourth = marks_below (has_bit 3) vs;
}

pub values_at-kept : (vs : List Nine) (len a b c d : ℕ) → IsKept vs len a b c d → values_at len a b c d ≡ vs
values_at-kept vs len a b c d h = rw (h.same, h.first, h.second, h.third, h.fourth) (values_in vs)

-- and words that meet the invariant keep what is seen
pub IsKept-seen : (vs : List Nine) (len a b c d : ℕ) → IsPlanes len a b c d → values_at len a b c d ≡ vs → IsKept vs len a b c d
IsKept-seen vs len a b c d h seen =
    let same : length vs ≡ len = ap length (sym seen) ∙ length-values_at len a b c d in record {
      same = sym same;
      some = rw same h.some;
      room = rw same h.room;
      first = sym (plane_of-first len a b c d h) ∙ ap (plane_of 0) seen;
      second = sym (plane_of-second len a b c d h) ∙ ap (plane_of 1) seen;
      third = sym (plane_of-third len a b c d h) ∙ ap (plane_of 2) seen;
      fourth = sym (plane_of-fourth len a b c d h) ∙ ap (plane_of 3) seen;
    }

-- the value at a place from the left
pub values_at-get : (len at a b c d : ℕ) → at < len → slice_get (values_at len a b c d) at ≡ Some (value_of_code (code_at a b c d (len - 1 - at)))
unfolding values_at
values_at-get zero at a b c d lt = absurd (omega arith)
values_at-get (suc k) zero a b c d lt = let e : k ≡ suc k - 1 - 0 = omega arith in ap (λ n. Some (value_of_code (code_at a b c d n))) e
values_at-get (suc k) (suc at) a b c d lt =
    let e : k - 1 - at ≡ suc k - 1 - suc at = omega arith in
    values_at-get k at a b c d (omega arith) ∙ ap (λ n. Some (value_of_code (code_at a b c d n))) e

-- lists of the same planes and one length are one list
same_planes : (vs ws : List Nine) → (plane_of 0 vs ≡ plane_of 0 ws) × (plane_of 1 vs ≡ plane_of 1 ws) × (plane_of 2 vs ≡ plane_of 2 ws) × (plane_of 3 vs ≡ plane_of 3 ws) × (length vs ≡ length ws) → vs ≡ ws
same_planes vs ws e = sym (values_in vs) ∙ rw (e.0, e.1, e.2, e.3, e.4) (values_in ws)

-- equality of the words and lengths is equality of the lists
pub same_planes-Decides : (vs ws : List Nine) →
    Decides ((plane_of 0 vs == plane_of 0 ws) && ((plane_of 1 vs == plane_of 1 ws) && ((plane_of 2 vs == plane_of 2 ws) && ((plane_of 3 vs == plane_of 3 ws) && (length vs == length ws))))) (vs ≡ ws)
same_planes-Decides vs ws =
    Decides-like _ (λ e. same_planes vs ws (e.0, e.1.0, e.1.1.0, e.1.1.1.0, e.1.1.1.1)) (λ e. (ap (plane_of 0) e, (ap (plane_of 1) e, (ap (plane_of 2) e, (ap (plane_of 3) e, ap length e)))))
    (Decides-and _ _ (Decides-eqb (plane_of 0 vs) (plane_of 0 ws)) (Decides-and _ _ (Decides-eqb (plane_of 1 vs) (plane_of 1 ws)) (Decides-and _ _ (Decides-eqb (plane_of 2 vs) (plane_of 2 ws)) (Decides-and _ _ (Decides-eqb (plane_of 3 vs) (plane_of 3 ws)) (Decides-eqb (length vs) (length ws))))))
