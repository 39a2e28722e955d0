-- Lists: what is in them, and what passes a test.
use Rattle.std.proofs.Common.{◌≡◌, ℕ, zero, suc, ◌<◌, Bool, true, false, ◌==◌, List, [], ◌∷◌, ◌++◌, length, get_or, map}
use Rattle.std.proofs.Common.{refl, ap, subst, arith, ◌≤◌, ◌⊎◌, inl, inr, Contains}
use Rattle.std.specs.List.{list_any}
use Rattle.std.proofs.lemmas.Bool.{or_cases, or_parts, cases_Bool, eqb-true, eq-eqb}
use Rattle.rtl_model.specs.basics.Lists.{is_empty}

-- ---- elements

pub Contains-none : {X : Type 0} (x : X) → Contains [] x → ⊥
Contains-none x h = let l : h.0 < 0 = h.1 in omega arith

pub Contains-one : {X : Type 0} (x y : X) → Contains (x ∷ []) y → x ≡ y
Contains-one x y (k, l, e) = go k l e
  where
    go : (k : ℕ) → k < 1 → get_or (x ∷ []) k y ≡ y → x ≡ y
    go zero l e = e
    go (suc k) l e = absurd (omega arith)

pub only_source : {X : Type 0} (xs : List X) (x : X) → length xs ≤ 1 → Contains xs x → xs ≡ x ∷ []
only_source [] x l h = absurd (Contains-none x h)
only_source (y ∷ []) x l h = ap (λ z. z ∷ []) (Contains-one y x h)
only_source (y ∷ z ∷ zs) x l h = absurd (omega arith)

pub Contains-first : {X : Type 0} (x : X) (xs : List X) → Contains (x ∷ xs) x
Contains-first x xs = (0, omega arith, refl)

pub nil_parts : {X : Type 0} (xs ys : List X) → xs ++ ys ≡ [] → (xs ≡ []) × (ys ≡ [])
nil_parts [] ys h = (refl, h)
nil_parts (x ∷ xs) ys h = absurd cc

pub is_nil : {X : Type 0} (xs : List X) → is_empty xs ≡ true → xs ≡ []
is_nil [] h = refl
is_nil (x ∷ xs) h = absurd cc

pub get_or-map_within : {X Y : Type 0} (f : X → Y) (xs : List X) (k : ℕ) (d : X) (e : Y) → k < length xs → get_or (map f xs) k e ≡ f (get_or xs k d)
get_or-map_within f [] k d e l = absurd (omega arith)
get_or-map_within f (x ∷ xs) zero d e l = refl
get_or-map_within f (x ∷ xs) (suc k) d e l = get_or-map_within f xs k d e (omega arith)

pub get_or_default : {X : Type 0} (xs : List X) (k : ℕ) (d e : X) → k < length xs → get_or xs k d ≡ get_or xs k e
get_or_default [] k d e l = absurd (omega arith)
get_or_default (x ∷ xs) zero d e l = refl
get_or_default (x ∷ xs) (suc k) d e l = get_or_default xs k d e (omega arith)

-- ---- tests of a list

pub any_at : {X : Type 0} (f : X → Bool) (xs : List X) → list_any f xs ≡ true → (x : X) × Contains xs x × (f x ≡ true)
any_at f [] e = cc
any_at {X} f (x ∷ xs) e = go (λ h. any_at f xs h) (or_cases (f x) (list_any f xs) e)
  where
    go : (list_any f xs ≡ true → (y : X) × Contains xs y × (f y ≡ true)) → (f x ≡ true) ⊎ (list_any f xs ≡ true) → (y : X) × Contains (x ∷ xs) y × (f y ≡ true)
    go more (inl h) = (x, (0, omega arith, refl), h)
    go more (inr h) = let (y, (k, l, at), t) = more h in (y, (suc k, omega arith, at), t)

pub none_at : {X : Type 0} (f : X → Bool) (xs : List X) (k : ℕ) (d : X) → list_any f xs ≡ false → f d ≡ false → f (get_or xs k d) ≡ false
none_at f [] k d e h = h
none_at f (x ∷ xs) zero d e h = (or_parts (f x) (list_any f xs) e).0
none_at f (x ∷ xs) (suc k) d e h = none_at f xs k d (or_parts (f x) (list_any f xs) e).1 h

pub none_contained : {X : Type 0} (f : X → Bool) (xs : List X) (x : X) → list_any f xs ≡ false → Contains xs x → f x ≡ false
none_contained f [] x e (k, l, at) = absurd (omega arith)
none_contained {X} f (y ∷ xs) x e (zero, l, at) = subst (λ (z : X). f z ≡ false) at (or_parts (f y) (list_any f xs) e).0
none_contained {X} f (y ∷ xs) x e (suc k, l, at) = none_contained f xs x (or_parts (f y) (list_any f xs) e).1 (k, omega arith, at)

pub all_none : {X : Type 0} (f : X → Bool) (xs : List X) (d : X) → ((k : ℕ) → k < length xs → f (get_or xs k d) ≡ false) → list_any f xs ≡ false
all_none f [] d h = refl
all_none f (x ∷ xs) d h = rw (h 0 (omega arith)) (all_none f xs d (λ k l. h (suc k) (omega arith)))

pub any_true : {X : Type 0} (f : X → Bool) (xs : List X) (x : X) → Contains xs x → f x ≡ true → list_any f xs ≡ true
any_true f xs x c t = go (cases_Bool (list_any f xs))
  where
    go : (list_any f xs ≡ true) ⊎ (list_any f xs ≡ false) → list_any f xs ≡ true
    go (inl h) = h
    go (inr h) = let k = none_contained f xs x h c in cc

-- ---- whether a number is in a list

abbrev pub is_in : List ℕ → ℕ → Bool
is_in xs n = list_any (λ m. m == n) xs

pub in_contains : (xs : List ℕ) (n : ℕ) → is_in xs n ≡ true → Contains xs n
in_contains xs n e = let (m, c, t) = any_at (λ m. m == n) xs e in subst (λ (k : ℕ). Contains xs k) (eqb-true m n t) c

pub contains_in : (xs : List ℕ) (n : ℕ) → Contains xs n → is_in xs n ≡ true
contains_in xs n c = any_true (λ m. m == n) xs n c (eq-eqb n n refl)
