-- What holds of each item of a list holds of one that is looked up, found or zipped; and what is left of a list.
use Rattle.std.proofs.Common.{◌≡◌, ℕ, zero, suc, ◌+◌, ◌<◌, ◌≤◌, Bool, true, false, cond, List, [], ◌∷◌, length, get_or, drop, drop-cons, add-one, Some, All, refl, sym, ap, ◌∙◌, subst, arith}
use Rattle.std.specs.Prelude.{slice_get, find}
use Rattle.std.specs.List.{AllZip, list_all}
use Rattle.std.proofs.lemmas.Bool.{and_parts}
use Rattle.std.proofs.lemmas.Option.{same_Some}
use Rattle.std.proofs.lemmas.List.Elements.{All-cons, All-nil, All-head, All-tail}

pub all_any : {A : Type 0} (Q : A → Type 0) → ((x : A) → Q x) → (xs : List A) → All Q xs
all_any {A} Q h [] = All-nil Q
all_any {A} Q h (x ∷ xs) = All-cons Q x xs (h x) (all_any Q h xs)

pub all_pass : {A : Type 0} (p : A → Bool) (xs : List A) → list_all p xs ≡ true → All (λ x. p x ≡ true) xs
all_pass {A} p [] h = All-nil (λ (x : A). p x ≡ true)
all_pass {A} p (x ∷ xs) h =
    let both = and_parts (p x) (list_all p xs) h in
    All-cons (λ (y : A). p y ≡ true) x xs both.0 (all_pass p xs both.1)

pub all_get : {A : Type 0} (Q : A → Type 0) (xs : List A) (n : ℕ) (x : A) → All Q xs → slice_get xs n ≡ Some x → Q x
all_get {A} Q [] n x h e = absurd cc
all_get {A} Q (y ∷ ys) zero x h e = subst Q (same_Some y x e) (All-head Q y ys h)
all_get {A} Q (y ∷ ys) (suc n) x h e = all_get Q ys n x (All-tail Q y ys h) e

pub all_found : {A : Type 0} (Q : A → Type 0) (f : A → Bool) (xs : List A) (x : A) → All Q xs → find f xs ≡ Some x → Q x
all_found {A} Q f [] x h e = absurd cc
all_found {A} Q f (y ∷ ys) x h e = by (f y) e (λ later. all_found Q f ys x (All-tail Q y ys h) later)
  where
    by : (t : Bool) → cond t (Some y) (find f ys) ≡ Some x → (find f ys ≡ Some x → Q x) → Q x
    by true e go = subst Q (same_Some y x e) (All-head Q y ys h)
    by false e go = go e

pub all_of_zip : {A B : Type 0} (R : A → B → Type 0) (Q : B → Type 0) → ((x : A) (y : B) → R x y → Q y) → (xs : List A) (ys : List B) → AllZip R xs ys → All Q ys
all_of_zip {A} {B} R Q h [] [] z = All-nil Q
all_of_zip {A} {B} R Q h (x ∷ xs) (y ∷ ys) z = All-cons Q y ys (h x y z.0) (all_of_zip R Q h xs ys z.1)
all_of_zip {A} {B} R Q h _ _ z = elim z [ ]

-- ---- the items that are left of a list

pub next_left : {X : Type 0} (xs : List X) (i : ℕ) (x : X) → i < length xs → x ≡ get_or xs i x → drop i xs ≡ x ∷ drop (i + 1) xs
next_left xs i x h e = drop-cons xs i x h ∙ ap (λ y. y ∷ drop (suc i) xs) (sym e) ∙ ap (λ j. x ∷ drop j xs) (sym (add-one i))

pub none_left : {X : Type 0} (xs : List X) (i : ℕ) → length xs ≤ i → drop i xs ≡ []
none_left [] zero h = refl
none_left [] (suc i) h = refl
none_left (x ∷ xs) zero h = absurd (omega arith)
none_left (x ∷ xs) (suc i) h = none_left xs i (omega arith)
