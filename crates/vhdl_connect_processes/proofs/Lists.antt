-- Things of a list that become what is made of them, one after another.
use Rattle.std.proofs.Common.{◌≡◌, ℕ, zero, suc, ◌+◌, ◌<◌, ◌≤◌, List, [], ◌∷◌, ◌++◌, length, get_or, take, drop, drop-cons, add-one, map, append-nil, append_assoc, refl, sym, ap, ◌∙◌, arith}
use Rattle.std.proofs.lemmas.List.{at_drop_all}

module _ {X V : Type 0} (view : X → V) (made : V → V) where
  -- so many have become what is made of them, and the others are as they were
  abbrev pub BecameTo : (k : ℕ) (old now : List X) → Type 0
  BecameTo k old now = map made (map view old) ≡ map view (take k now) ++ map made (map view (drop k now))

-- one thing made of each number of a list, behind those that were there
module _ {Y : Type 0} (f : ℕ → Y) (whole : List Y) (xs : List ℕ) where
  pub map_next : (made more : List Y) (i : ℕ) (y : Y) → i < length xs → whole ≡ made ++ map f (drop i xs) → y ≡ f (get_or xs i 0) → more ≡ made ++ y ∷ []
      → whole ≡ more ++ map f (drop (i + 1) xs)
  map_next made more i y below so_far e pushed =
      so_far ∙ ap (λ l. made ++ map f l) (drop-cons xs i 0 below) ∙ ap (λ j. made ++ (f (get_or xs i 0) ∷ map f (drop j xs))) (sym (add-one i))
      ∙ ap (λ z. made ++ (z ∷ map f (drop (i + 1) xs))) (sym e) ∙ sym (append_assoc made (y ∷ []) (map f (drop (i + 1) xs)))
      ∙ ap (λ l. l ++ map f (drop (i + 1) xs)) (sym pushed)

  pub map_done : (made : List Y) (i : ℕ) → length xs ≤ i → whole ≡ made ++ map f (drop i xs) → made ≡ whole
  map_done made i past so_far = sym (so_far ∙ at_drop_all (λ l. made ++ map f l) xs i past ∙ append-nil made)

-- as many of a list as it has, or more
pub take_whole : {X : Type 0} (xs : List X) (i : ℕ) → length xs ≤ i → take i xs ≡ xs
take_whole [] zero h = refl
take_whole [] (suc i) h = refl
take_whole (x ∷ xs) zero h = absurd (omega (arith, h))
take_whole (x ∷ xs) (suc i) h = ap (λ ys. x ∷ ys) (take_whole xs i (omega (arith, h)))
