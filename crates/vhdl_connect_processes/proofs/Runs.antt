-- What is made of the numbers of a run, one after another.
use Rattle.std.proofs.Common.{◌≡◌, ℕ, zero, suc, ◌+◌, List, [], ◌∷◌, ◌++◌, map, refl, sym, ap, ◌∙◌}
use Rattle.std.specs.List.{range_with_len}
use Rattle.std.proofs.lemmas.List.FromFn.{map-range_with_len_more}

pub range-more : (a n : ℕ) → range_with_len a (n + 1) ≡ range_with_len a n ++ (a + n) ∷ []
range-more a n = sym (map-id a (n + 1)) ∙ map-range_with_len_more (λ x. x) a n (a + n) refl ∙ ap (λ xs. xs ++ (a + n) ∷ []) (map-id a n)
  where
    map-id : (b m : ℕ) → map (λ x. x) (range_with_len b m) ≡ range_with_len b m
    map-id b zero = refl
    map-id b (suc m) = ap (λ xs. b ∷ xs) (map-id (b + 1) m)

module _ (f : ℕ → ℕ) where
  -- of one more number, where all so far are a run themselves
  pub run_more : (a first k : ℕ) → map f (range_with_len a k) ≡ range_with_len first k → f (a + k) ≡ first + k
      → map f (range_with_len a (k + 1)) ≡ range_with_len first (k + 1)
  run_more a first k so_far h =
      map-range_with_len_more f a k (a + k) refl ∙ ap (λ xs. xs ++ f (a + k) ∷ []) so_far
      ∙ ap (λ n. range_with_len first k ++ n ∷ []) h ∙ sym (range-more first k)

  pub list_more : (items : List ℕ) (a k : ℕ) → items ≡ map f (range_with_len a k) → items ++ f (a + k) ∷ [] ≡ map f (range_with_len a (k + 1))
  list_more items a k so_far = ap (λ xs. xs ++ f (a + k) ∷ []) so_far ∙ sym (map-range_with_len_more f a k (a + k) refl)
