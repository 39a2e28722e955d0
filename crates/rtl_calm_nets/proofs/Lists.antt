-- What a list has that grows by one.
use Rattle.std.proofs.Common.{◌≡◌, ℕ, zero, suc, List, [], ◌∷◌, ◌++◌, length, take, drop, refl, sym, ap, ◌∙◌, arith, ◌⊎◌, inl, inr, Contains}
use Rattle.rtl_model.proofs.basics.Lists.{Contains-one, Contains-first}

pub push_has : {X : Type 0} (xs : List X) (x y : X) → Contains xs y → Contains (xs ++ x ∷ []) y
push_has [] x y (k, l, e) = absurd (omega arith)
push_has (z ∷ zs) x y (zero, l, e) = (0, omega arith, e)
push_has (z ∷ zs) x y (suc k, l, e) = let (j, m, f) = push_has zs x y (k, omega arith, e) in (suc j, omega arith, f)

pub push_last : {X : Type 0} (xs : List X) (x : X) → Contains (xs ++ x ∷ []) x
push_last [] x = Contains-first x []
push_last (z ∷ zs) x = let (j, m, f) = push_last zs x in (suc j, omega arith, f)

pub in_push : {X : Type 0} (xs : List X) (x y : X) → Contains (xs ++ x ∷ []) y → Contains xs y ⊎ (x ≡ y)
in_push [] x y c = inr (Contains-one x y c)
in_push (z ∷ zs) x y (zero, l, e) = inl (0, omega arith, e)
in_push (z ∷ zs) x y (suc k, l, e) = go (in_push zs x y (k, omega arith, e))
  where
    go : Contains zs y ⊎ (x ≡ y) → Contains (z ∷ zs) y ⊎ (x ≡ y)
    go (inl (j, m, f)) = inl (suc j, omega arith, f)
    go (inr s) = inr s

take_front : {X : Type 0} (xs ys : List X) → take (length xs) (xs ++ ys) ≡ xs
take_front [] ys = refl
take_front (x ∷ xs) ys = ap (λ zs. x ∷ zs) (take_front xs ys)

-- what a vector has behind a call that wrote to all of it
pub written_back : {X : Type 0} (len : ℕ) (new old : List X) → length new ≡ len → take len (new ++ drop (length new) old) ≡ new
written_back len new old n = ap (λ (k : ℕ). take k (new ++ drop (length new) old)) (sym n) ∙ take_front new (drop (length new) old)
