-- Lists by their first element, and what is left of a list behind it.
use Rattle.std.proofs.Common.{◌≡◌, ◌-◌, ◌<◌, ◌≤◌, Bool, true, false, List, [], ◌∷◌, Some, length, take, drop, refl, arith}
use Rattle.std.specs.List.{list_any, list_all}
use Rattle.std.specs.Prelude.{find}
use Rattle.std.proofs.lemmas.List.{take_all}

abbrev pub rest : {A : Type 0} → List A → List A
rest xs = take (length xs - 1) (drop 1 xs)

pub rest_is : {A : Type 0} (x : A) (xs : List A) → rest (x ∷ xs) ≡ xs
rest_is x xs = take_all (length (x ∷ xs) - 1) xs (omega arith)

pub rest_shorter : {A : Type 0} (xs : List A) → 1 ≤ length xs → length (rest xs) < length xs
rest_shorter [] some = absurd (omega (arith, some))
rest_shorter (x ∷ xs) some = rw (rest_is x xs) (omega arith)

module _ {A : Type 0} (p : A → Bool) (xs : List A) (x : A) (behind : List A) where
  pub any_here : xs ≡ x ∷ behind → p x ≡ true → list_any p xs ≡ true
  any_here is so = rw (is, so) refl

  pub any_more : xs ≡ x ∷ behind → p x ≡ false → list_any p behind ≡ list_any p xs
  any_more is not_so = rw (is, not_so) refl

  pub all_here : xs ≡ x ∷ behind → p x ≡ false → list_all p xs ≡ false
  all_here is not_so = rw (is, not_so) refl

  pub all_more : xs ≡ x ∷ behind → p x ≡ true → list_all p behind ≡ list_all p xs
  all_more is so = rw (is, so) refl

module _ {A : Type 0} (p : A → Bool) (x : A) (xs : List A) where
  pub find_here : p x ≡ true → find p (x ∷ xs) ≡ Some x
  find_here so = rw so refl

  pub find_behind : p x ≡ false → find p (x ∷ xs) ≡ find p xs
  find_behind not_so = rw not_so refl
