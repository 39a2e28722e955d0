-- Values that are brought chunk by chunk.
use Rattle.std.proofs.Common.{◌≡◌, ℕ, ◌+◌, ◌-◌, ◌*◌, ◌/◌, ◌<◌, ◌≤◌, ◌⊎◌, inl, inr, Bool, true, false, List, length, min, get_or, arith, ap, sym, ◌∙◌}
use Rattle.std.specs.Prelude.{slice_index}
use Rattle.std.proofs.lemmas.Bool.{cases_lt, cases_eq}

-- A marked chunk gets the values of `from`. Those that aren't marked have them.
module _ (marks : List Bool) (chunk len : ℕ) (from old new : List ℕ) (len_is : len ≡ min (length from - chunk * 256) 256)
    (there : (n : ℕ) → chunk * 256 ≤ n → n < chunk * 256 + len → slice_index new n ≡ slice_index from n)
    (others : (n : ℕ) → (n < chunk * 256) ⊎ (chunk * 256 + len ≤ n) → slice_index new n ≡ slice_index old n)
    (marked : get_or marks chunk false ≡ true)
    (left : (n : ℕ) → get_or marks (n / 256) false ≡ false → slice_index old n ≡ slice_index from n) where
  at_marked : (n : ℕ) → get_or marks (n / 256) false ≡ false → n / 256 ≡ chunk → ⊥
  at_marked n is e = let h : false ≡ true = sym is ∙ ap (λ (k : ℕ). get_or marks k false) e ∙ marked in cc

  behind_chunk : (n : ℕ) → chunk ≤ n / 256 → (n / 256 ≡ chunk → ⊥) → chunk * 256 + len ≤ n
  behind_chunk n le differ = let less : chunk < n / 256 = omega (arith, le, differ) in omega (arith, less, len_is)

  -- those that aren't marked still have them
  pub left_still : (n : ℕ) → get_or marks (n / 256) false ≡ false → slice_index new n ≡ slice_index from n
  left_still n is = by (cases_lt (n / 256) chunk)
    where
      by : (n / 256 < chunk) ⊎ (chunk ≤ n / 256) → slice_index new n ≡ slice_index from n
      by (inl less) = others n (inl (omega (arith, less))) ∙ left n is
      by (inr behind) = others n (inr (behind_chunk n behind (at_marked n is))) ∙ left n is

  -- and all up to the next marked chunk have them
  pub done_more : (next : ℕ) → ((n : ℕ) → n < length from → n / 256 < chunk → slice_index old n ≡ slice_index from n)
      → ((k : ℕ) → chunk + 1 ≤ k → k < next → get_or marks k false ≡ false)
      → (n : ℕ) → n < length from → n / 256 < next → slice_index new n ≡ slice_index from n
  done_more next done unmarked n lt less = by (cases_lt (n / 256) chunk)
    where
      at : chunk ≤ n / 256 → (n / 256 ≡ chunk) ⊎ (n / 256 ≡ chunk → ⊥) → slice_index new n ≡ slice_index from n
      at le (inl e) = there n (omega (arith, e)) (omega (arith, e, lt, len_is))
      at le (inr differ) = left_still n (unmarked (n / 256) (omega (arith, le, differ)) less)

      by : (n / 256 < chunk) ⊎ (chunk ≤ n / 256) → slice_index new n ≡ slice_index from n
      by (inl before) = others n (inl (omega (arith, before))) ∙ done n lt before
      by (inr behind) = at behind (cases_eq (n / 256) chunk)
