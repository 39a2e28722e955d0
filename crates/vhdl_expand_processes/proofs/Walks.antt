-- What a walk over a list puts behind what stands there.
use Rattle.std.proofs.Common.{◌≡◌, ℕ, zero, suc, ◌+◌, ◌<◌, ◌≤◌, List, [], ◌∷◌, ◌++◌, length, get_or, map, drop, drop-cons, add-one, append-nil, refl, sym, ap, ◌∙◌}
use Rattle.std.specs.List.{range_with_len}
use Rattle.std.proofs.lemmas.List.{append_assoc}
use Rattle.std.proofs.lemmas.List.FromFn.{map-range_with_len_more}
use Rattle.vhdl_expand_rules.proofs.Items.{none_left}

-- one more of those that are listed, and all of them
module _ (whole : List ℕ) (xs : List ℕ) where
  pub one_listed : (made more : List ℕ) (i : ℕ) → i < length xs → whole ≡ made ++ drop i xs → more ≡ made ++ get_or xs i 0 ∷ [] → whole ≡ more ++ drop (i + 1) xs
  one_listed made more i below so_far pushed =
      so_far ∙ ap (λ l. made ++ l) (drop-cons xs i 0 below) ∙ ap (λ j. made ++ (get_or xs i 0 ∷ drop j xs)) (sym (add-one i))
      ∙ sym (append_assoc made (get_or xs i 0 ∷ []) (drop (i + 1) xs)) ∙ ap (λ l. l ++ drop (i + 1) xs) (sym pushed)

  pub all_listed : (made : List ℕ) (i : ℕ) → length xs ≤ i → whole ≡ made ++ drop i xs → made ≡ whole
  all_listed made i past so_far = sym (so_far ∙ ap (λ l. made ++ l) (none_left xs i past) ∙ append-nil made)

-- one more of a run
range-more : (a n : ℕ) → range_with_len a (n + 1) ≡ range_with_len a n ++ (a + n) ∷ []
range-more a n = sym (map-id a (n + 1)) ∙ map-range_with_len_more (λ x. x) a n (a + n) refl ∙ ap (λ xs. xs ++ (a + n) ∷ []) (map-id a n)
  where
    map-id : (b m : ℕ) → map (λ x. x) (range_with_len b m) ≡ range_with_len b m
    map-id b zero = refl
    map-id b (suc m) = ap (λ xs. b ∷ xs) (map-id (b + 1) m)

pub more_run : (old now : List ℕ) (first k : ℕ) → now ≡ old ++ range_with_len first k → now ++ (first + k) ∷ [] ≡ old ++ range_with_len first (k + 1)
more_run old now first k h =
    ap (λ xs. xs ++ (first + k) ∷ []) h ∙ append_assoc old (range_with_len first k) ((first + k) ∷ []) ∙ ap (λ xs. old ++ xs) (sym (range-more first k))
