-- What is looked up in a list that stands behind another.
use Rattle.std.proofs.Common.{◌≡◌, ℕ, zero, suc, ◌-◌, ◌<◌, ◌≤◌, List, [], ◌∷◌, ◌++◌, length, Option, None, Some, refl, ap, ◌∙◌, subst, arith}
use Rattle.std.specs.Prelude.{slice_get, SomeIff}

pub get-front : {A : Type 0} (xs ys : List A) (k : ℕ) → k < length xs → slice_get (xs ++ ys) k ≡ slice_get xs k
get-front [] ys k h = absurd (omega arith)
get-front (x ∷ xs) ys zero h = refl
get-front (x ∷ xs) ys (suc k) h = get-front xs ys k (omega arith)

pub get-behind : {A : Type 0} (xs ys : List A) (k : ℕ) → length xs ≤ k → slice_get (xs ++ ys) k ≡ slice_get ys (k - length xs)
get-behind [] ys k h = ap (slice_get ys) (omega arith)
get-behind (x ∷ xs) ys zero h = absurd (omega arith)
get-behind (x ∷ xs) ys (suc k) h = get-behind xs ys k (omega arith) ∙ ap (slice_get ys) (omega arith)

-- the place behind the first list of so many items, where the code sees whether there is one
module _ {A : Type 0} (xs ys : List A) (n len : ℕ) (place : Option ℕ) (long : len ≡ length xs) (is : SomeIff place (len ≤ n) (n - len)) where
  pub found-front : place ≡ None → slice_get (xs ++ ys) n ≡ slice_get xs n
  found-front e =
      let none = subst (λ (p : Option ℕ). SomeIff p (len ≤ n) (n - len)) e is in
      get-front xs ys n (omega arith)

  pub found-behind : (k : ℕ) → place ≡ Some k → slice_get (xs ++ ys) n ≡ slice_get ys k
  found-behind k e =
      let some = subst (λ (p : Option ℕ). SomeIff p (len ≤ n) (n - len)) e is in
      get-behind xs ys n (omega arith) ∙ ap (slice_get ys) (omega arith)
