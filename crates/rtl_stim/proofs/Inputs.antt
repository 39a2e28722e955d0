-- The inputs of a netlist.
use Rattle.std.proofs.Common.{◌≡◌, ℕ, suc, zero, ⊎_elim, ◌+◌, ◌++◌, take, drop, cond, filter, append_assoc, subst, length-append, eq-or-lt_of_le, ◌<◌, ◌≤◌, Bool, true, false, List, [], ◌∷◌, length, get_or, Result, Ok, Err, refl, sym, ap, ◌∙◌, arith}
use Rattle.std.specs.Prelude.{MatchResult, ◌==◌, ◌||◌, All, AllPairs}
use Rattle.std.specs.List.Sorted.{IsStrictlyIncreasing}
use Rattle.std.proofs.Math.ListN.{get_or-append}
use Rattle.std.proofs.Math.Seq.{get_or-append_seam}
use Rattle.std.proofs.lemmas.Bool.{cases_lt}
use Rattle.std.proofs.lemmas.List.{take_more, take-append-drop}
use Rattle.std.proofs.lemmas.List.Elements.{filter-append}
use Rattle.std.proofs.lemmas.List.Kept.{AllPairs-from_increasing}
use Rattle.std.specs.List.{list_any}
use Rattle.std.specs.Result.{is_ok}
use Rattle.std.proofs.lemmas.Bool.Decides.{nat_tests}

-- a number is among others
pub among : (xs : List ℕ) (x k : ℕ) → k < length xs → get_or xs k 0 ≡ x → list_any (λ m. m == x) xs ≡ true
among [] x k within is = absurd (omega (arith, within))
among (y ∷ xs) x zero within is = let e : (y == x) ≡ true = grind (arith, nat_tests) in ap (λ b. b || list_any (λ m. m == x) xs) e
among (y ∷ xs) x (suc k) within is = by (y == x) (among xs x k (omega (arith, within)) is)
  where
    by : (b : Bool) → list_any (λ m. m == x) xs ≡ true → (b || list_any (λ m. m == x) xs) ≡ true
    by true e = refl
    by false e = e

none_is : (xs : List ℕ) (x : ℕ) → ((k : ℕ) → k < length xs → get_or xs k 0 ≡ x → ⊥) → list_any (λ m. m == x) xs ≡ false
none_is [] x none = refl
none_is (y ∷ xs) x none =
    let differ : y ≡ x → ⊥ = none 0 (omega arith) in
    let e : (y == x) ≡ false = grind (arith, nat_tests) in
    ap (λ b. b || list_any (λ m. m == x) xs) e ∙ none_is xs x (λ k within. none (suc k) (omega (arith, within)))

-- what a search among numbers that rise answers
pub found_among : (xs : List ℕ) (x : ℕ) (r : Result ℕ ℕ)
    → MatchResult r (λ i. (i < length xs) × (get_or xs i 0 ≡ x)) (λ i. (i ≤ length xs) × ((k : ℕ) → k < i → get_or xs k 0 < x) × ((k : ℕ) → i ≤ k → k < length xs → x < get_or xs k 0))
    → is_ok r ≡ list_any (λ m. m == x) xs
found_among xs x (Ok i) h = sym (among xs x i h.0 h.1)
found_among xs x (Err i) h = sym (none_is xs x (λ k within e. ⊎_elim (λ lower. omega (arith, e, h.1 k lower)) (λ higher. omega (arith, e, h.2 k higher within)) (cases_lt k i)))

pub rising : (xs : List ℕ) → IsStrictlyIncreasing xs → (i j : ℕ) → i ≤ j → j < length xs → get_or xs i 0 ≤ get_or xs j 0
rising xs rise i j less within =
    ⊎_elim (λ same. let e : get_or xs i 0 ≡ get_or xs j 0 = ap (λ n. get_or xs n 0) same in omega arith)
    (λ before. let h = AllPairs-from_increasing xs rise i j 0 before within in omega arith) (eq-or-lt_of_le less)

-- ---- a member with others round it

pub all_before : {X : Type 0} (R : X → X → Type 0) (xs ys : List X) (x : X) → AllPairs R (xs ++ x ∷ ys) → All (λ y. R y x) xs
all_before R xs ys x h k d within =
    let more : length xs < length (xs ++ x ∷ ys) = omega (arith, length-append xs (x ∷ ys)) in
    subst (R (get_or xs k d)) (get_or-append_seam xs x ys d)
    (subst (λ y. R y (get_or (xs ++ x ∷ ys) (length xs) d)) (get_or-append xs (x ∷ ys) d k within) (h k (length xs) d within more))

pub split_at : {X : Type 0} (xs : List X) (i : ℕ) (d : X) → i < length xs → xs ≡ take i xs ++ get_or xs i d ∷ drop (i + 1) xs
split_at xs i d within =
    sym (take-append-drop (i + 1) xs) ∙ ap (λ front. front ++ drop (i + 1) xs) (take_more xs i d within) ∙ append_assoc (take i xs) (get_or xs i d ∷ []) (drop (i + 1) xs)

-- of what passes a test, the member at a place comes behind what passes before it
pub split_filter : {X : Type 0} (p : X → Bool) (xs : List X) (i : ℕ) (d : X) → i < length xs → p (get_or xs i d) ≡ true
    → filter p xs ≡ filter p (take i xs) ++ get_or xs i d ∷ filter p (drop (i + 1) xs)
split_filter p xs i d within passes =
    ap (filter p) (split_at xs i d within) ∙ filter-append p (take i xs) (get_or xs i d ∷ drop (i + 1) xs)
    ∙ ap (λ b. filter p (take i xs) ++ cond b (get_or xs i d ∷ filter p (drop (i + 1) xs)) (filter p (drop (i + 1) xs))) passes
