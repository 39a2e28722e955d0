-- Bits of words, as marks of slots.
use Rattle.std.proofs.Common.{◌≡◌, ◌≢◌, ◌⊎◌, ℕ, ◌+◌, ◌-◌, ◌*◌, ◌/◌, ◌%◌, ◌^◌, ◌<◌, ◌≤◌, Bool, true, false, List, length, get_or, set, sym, ap, ◌∙◌, arith, inl, inr}
use Rattle.std.specs.Prelude.{◌==◌}
use Rattle.std.specs.Int.{bit_at, trailing_zeros, w64}
use Rattle.std.proofs.lemmas.Bool.{cases_eq, cases_lt}
use Rattle.std.proofs.lemmas.List.{get_or-set_same, get_or-set_other}
use Rattle.std.proofs.lemmas.Nat.{shr-shr}
use Rattle.std.proofs.lemmas.Nat.Bits.{bit_at-zero, bit_at-trailing_zeros, bit_at_above}
use Rattle.rtl_agenda.specs.Occupied.{is_marked}

-- a word that is written changes the bit of a slot alone
module _ (words : List ℕ) (slot word : ℕ) (within : slot / 64 < length words) where
  pub marked_same : (b : Bool) → (bit_at word (slot % 64) == 1) ≡ b → is_marked (set words (slot / 64) word) slot ≡ b
  marked_same b is = ap (λ n. bit_at n (slot % 64) == 1) (get_or-set_same words (slot / 64) word 0 within) ∙ is

  pub marked_other : ((i : ℕ) → i < 64 → i ≢ slot % 64 → bit_at word i ≡ bit_at (get_or words (slot / 64) 0) i) → (s : ℕ) → s ≢ slot
      → is_marked (set words (slot / 64) word) s ≡ is_marked words s
  marked_other same s apart = by (cases_eq (s / 64) (slot / 64))
    where
      by : (s / 64 ≡ slot / 64) ⊎ (s / 64 ≡ slot / 64 → ⊥) → is_marked (set words (slot / 64) word) s ≡ is_marked words s
      by (inl is) =
          let other : s % 64 ≢ slot % 64 = (λ e. apart (omega arith)) in
          let here : get_or (set words (slot / 64) word) (s / 64) 0 ≡ word = ap (λ k. get_or (set words (slot / 64) word) k 0) is ∙ get_or-set_same words (slot / 64) word 0 within in
          let was : get_or words (s / 64) 0 ≡ get_or words (slot / 64) 0 = ap (λ k. get_or words k 0) is in
          ap (λ n. n == 1)
          (ap (λ n. bit_at n (s % 64)) here ∙ same (s % 64) (omega arith) other ∙ ap (λ n. bit_at n (s % 64)) (sym was))
      by (inr differ) = ap (λ n. bit_at n (s % 64) == 1) (get_or-set_other words (slot / 64) (s / 64) word 0 differ)

bit_shifted : (n k i : ℕ) → bit_at (n / 2 ^ k) i ≡ bit_at n (k + i)
bit_shifted n k i = ap (λ m. m % 2) (shr-shr n k i)

-- the bits of a word from one on
module _ (words : List ℕ) (slot : ℕ) where
  word : ℕ
  word = get_or words (slot / 64) 0

  bit_of : (i : ℕ) → slot % 64 + i < 64 → is_marked words (slot + i) ≡ (bit_at (word / 2 ^ (slot % 64)) i == 1)
  unfolding word
  bit_of i within =
      let row : (slot + i) / 64 ≡ slot / 64 = omega arith in
      let column : (slot + i) % 64 ≡ slot % 64 + i = omega arith in
      ap (λ k. bit_at (get_or words k 0) ((slot + i) % 64) == 1) row ∙ ap (λ k. bit_at (get_or words (slot / 64) 0) k == 1) column
      ∙ ap (λ n. n == 1) (sym (bit_shifted (get_or words (slot / 64) 0) (slot % 64) i))

  -- where the rest is 0, no slot up to the next word is marked
  pub unmarked_rest : (rest : ℕ) → rest ≡ get_or words (slot / 64) 0 / 2 ^ (slot % 64) → rest ≡ 0 → (s : ℕ) → slot ≤ s → s < (slot / 64 + 1) * 64 → is_marked words s ≡ false
  unfolding word
  unmarked_rest rest is none s from below =
      let i : ℕ = s - slot in
      let at : slot + i ≡ s = omega arith in
      sym (ap (λ k. is_marked words k) at) ∙ bit_of i (omega arith) ∙ ap (λ n. bit_at n i == 1) (sym is ∙ none) ∙ ap (λ n. n == 1) (bit_at-zero i)

  -- else the lowest 1 is the first that is marked
  module _ (rest : ℕ) (is : rest ≡ get_or words (slot / 64) 0 / 2 ^ (slot % 64)) (some : 0 < rest) (small : get_or words (slot / 64) 0 < 2 ^ 64) where
    lowest : (trailing_zeros w64 rest < 64) × (bit_at rest (trailing_zeros w64 rest) ≡ 1) × ((i : ℕ) → i < trailing_zeros w64 rest → bit_at rest i ≡ 0)
    lowest = bit_at-trailing_zeros w64 rest some (omega (arith, is, small))

    pub lowest_within : slot % 64 + trailing_zeros w64 rest < 64
    lowest_within = by (cases_lt (slot % 64 + trailing_zeros w64 rest) 64)
      where
        by : (slot % 64 + trailing_zeros w64 rest < 64) ⊎ (64 ≤ slot % 64 + trailing_zeros w64 rest) → slot % 64 + trailing_zeros w64 rest < 64
        by (inl inside) = inside
        by (inr past) =
            let above = bit_at_above (get_or words (slot / 64) 0) 64 (slot % 64 + trailing_zeros w64 rest) small past in
            let one = lowest.1 in
            let here : bit_at rest (trailing_zeros w64 rest) ≡ 0 = ap (λ n. bit_at n (trailing_zeros w64 rest)) is ∙ bit_shifted (get_or words (slot / 64) 0) (slot % 64) (trailing_zeros w64 rest) ∙ above in
            absurd (omega (arith, here, one))

    pub marked_lowest : is_marked words (slot + trailing_zeros w64 rest) ≡ true
    unfolding word
    marked_lowest = bit_of (trailing_zeros w64 rest) lowest_within ∙ ap (λ n. bit_at n (trailing_zeros w64 rest) == 1) (sym is) ∙ ap (λ n. n == 1) lowest.1

    pub unmarked_below : (s : ℕ) → slot ≤ s → s < slot + trailing_zeros w64 rest → is_marked words s ≡ false
    unfolding word
    unmarked_below s from below =
        let i : ℕ = s - slot in
        let at : slot + i ≡ s = omega arith in
        let inside = lowest_within in
        sym (ap (λ k. is_marked words k) at) ∙ bit_of i (omega arith) ∙ ap (λ n. bit_at n i == 1) (sym is) ∙ ap (λ n. n == 1) (lowest.2 i (omega arith))
