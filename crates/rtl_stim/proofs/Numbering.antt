-- Lists of which each place gives something.
use Rattle.std.proofs.Common.{◌≡◌, ℕ, suc, ◌+◌, ◌<◌, List, [], ◌∷◌, ◌++◌, length, map, take, get_or, Some, refl, sym, ap, ◌∙◌, arith}
use Rattle.std.specs.Prelude.{slice_get}
use Rattle.std.proofs.lemmas.List.{take_more, take-map, length-map, get_or-map, length-take-le}
use Rattle.rtl_stim.specs.Numbered.{numbered}

pub numbered-append : {X Y : Type 0} (f : ℕ → X → Y) (p : ℕ) (xs ys : List X) → numbered f p (xs ++ ys) ≡ numbered f p xs ++ numbered f (p + length xs) ys
numbered-append f p [] ys = let e : p ≡ p + 0 = omega arith in ap (λ n. numbered f n ys) e
numbered-append f p (x ∷ xs) ys =
    let e : suc p + length xs ≡ p + suc (length xs) = omega arith in
    ap (λ t. f p x ∷ t) (numbered-append f (suc p) xs ys ∙ ap (λ n. numbered f (suc p) xs ++ numbered f n ys) e)

-- one more
pub numbered_more : {X Y : Type 0} (f : ℕ → X → Y) (xs : List X) (i : ℕ) (d : X) → i < length xs
    → numbered f 0 (take (i + 1) xs) ≡ numbered f 0 (take i xs) ++ f i (get_or xs i d) ∷ []
numbered_more f xs i d within =
    let many : 0 + length (take i xs) ≡ i = omega (arith, length-take-le i xs (omega arith)) in
    ap (numbered f 0) (take_more xs i d within) ∙ numbered-append f 0 (take i xs) (get_or xs i d ∷ [])
    ∙ ap (λ n. numbered f 0 (take i xs) ++ f n (get_or xs i d) ∷ []) many

-- where what is given doesn't depend on the place
pub numbered_same : {X Y : Type 0} (f : ℕ → X → Y) (g : X → Y) (p : ℕ) (xs : List X) → ((k : ℕ) (x : X) → slice_get xs k ≡ Some x → f (p + k) x ≡ g x)
    → numbered f p xs ≡ map g xs
numbered_same f g p [] h = refl
numbered_same f g p (x ∷ xs) h =
    let here : p ≡ p + 0 = omega arith in
    ap (λ y. y ∷ numbered f (suc p) xs) (ap (λ n. f n x) here ∙ h 0 x refl)
    ∙ ap (λ ys. g x ∷ ys) (numbered_same f g (suc p) xs (λ k y at. let e : suc p + k ≡ p + suc k = omega arith in ap (λ n. f n y) e ∙ h (suc k) y at))

-- one more, of things that are seen by a view
pub numbered_viewed : {X Y Z : Type 0} (view : X → Y) (f : ℕ → Y → Z) (xs : List X) (i : ℕ) (d : X) → i < length xs
    → numbered f 0 (map view (take (i + 1) xs)) ≡ numbered f 0 (map view (take i xs)) ++ f i (view (get_or xs i d)) ∷ []
numbered_viewed view f xs i d within =
    ap (numbered f 0) (sym (take-map view (i + 1) xs))
    ∙ numbered_more f (map view xs) i (view d) (omega (arith, length-map xs view))
    ∙ ap (λ ys. numbered f 0 ys ++ f i (get_or (map view xs) i (view d)) ∷ []) (take-map view i xs)
    ∙ ap (λ y. numbered f 0 (map view (take i xs)) ++ f i y ∷ []) (get_or-map view xs i d (view d) within)
