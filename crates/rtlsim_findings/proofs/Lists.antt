-- The first of a list, and one more behind it.
use Rattle.std.proofs.Common.{◌≡◌, ◌-◌, ◌<◌, ◌≤◌, List, [], ◌∷◌, ◌++◌, length, drop, map, take, slice_index_or, refl, ap, ◌∙◌, arith}
use Rattle.std.proofs.lemmas.List.{map-append, take_all}

-- what a pattern leaves behind the first
abbrev pub rest : {A : Type 0} → List A → List A
rest xs = take (length xs - 1) (drop 1 xs)

rest_is : {A : Type 0} (x : A) (xs : List A) → rest (x ∷ xs) ≡ xs
rest_is x xs = take_all (length (x ∷ xs) - 1) xs (omega arith)

pub first_is : {A : Type 0} (xs : List A) (x : A) → 1 ≤ length xs → x ≡ slice_index_or xs 0 x → xs ≡ x ∷ rest xs
first_is [] x some is = absurd (omega (arith, some))
first_is (y ∷ ys) x some is = rw (is, rest_is y ys) refl

pub cut : {A : Type 0} (xs : List A) (d : A) → 1 ≤ length xs → xs ≡ slice_index_or xs 0 d ∷ rest xs
cut [] d some = absurd (omega (arith, some))
cut (x ∷ xs) d some = rw (rest_is x xs) refl

pub none_is : {A : Type 0} (xs : List A) → length xs < 1 → xs ≡ []
none_is [] none = refl
none_is (x ∷ xs) none = absurd (omega (arith, none))

pub map_same : {A B : Type 0} (xs ys : List A) → xs ≡ ys → (f : A → B) → map f xs ≡ map f ys
map_same xs ys are f = ap (map f) are

pub one_more : {A B : Type 0} (xs ys : List A) (x : A) (told : B) → xs ≡ ys ++ x ∷ [] → (f : A → B) → f x ≡ told → map f xs ≡ map f ys ++ told ∷ []
one_more xs ys x told are f is = ap (map f) are ∙ map-append f ys (x ∷ []) ∙ ap (λ t. map f ys ++ t ∷ []) is
