-- Loops, listed once round from their lowest process.
use Rattle.std.proofs.Common.{◌≡◌, ◌≢◌, ℕ, ◌+◌, ◌-◌, ◌<◌, ◌≤◌, ◌⊎◌, inl, inr, ◌∷◌, ◌++◌, [], List, length, get_or, take, drop, set, Option, Some, None, nat_lt, refl, sym, ap, subst, ◌∙◌, arith, AllPairs, Contains}
use Rattle.std.specs.List.{IsFirstBest}
use Rattle.std.proofs.lemmas.Bool.{cases_lt, ltb-false}
use Rattle.std.proofs.lemmas.List.{length-append, length-drop, take-append-drop, get_or-drop, get_or_default, get_or_append_left, get_or-append-add, get_or-append_right, get_or_push, get_or-set_same, get_or-set_other, length_push}
use Rattle.std.proofs.lemmas.List.Elements.{Contains-append_left, Contains-append_right, Contains-append_cases}
use Rattle.rtl_check_levels.specs.Rounds.{IsListedOnce}
use Rattle.rtl_check_levels.proofs.Rotating.{some_same}

-- no process stands twice
abbrev pub AreApart : List ℕ → Type 0
AreApart xs = AllPairs (λ p q. p ≢ q) xs

-- ---- turned lists

module _ (xs ys : List ℕ) (d : ℕ) where
  in_first : (i : ℕ) → i < length ys → get_or (ys ++ xs) i d ≡ get_or (xs ++ ys) (length xs + i) d
  in_first i l = get_or_append_left ys xs d i l ∙ sym (get_or-append-add xs ys i d)

  in_second : (i : ℕ) → length ys ≤ i → i - length ys < length xs → get_or (ys ++ xs) i d ≡ get_or (xs ++ ys) (i - length ys) d
  in_second i l m = get_or-append_right ys xs (length ys) i d refl l ∙ sym (get_or_append_left xs ys d (i - length ys) m)

pub apart_turned : (xs ys : List ℕ) → AreApart (xs ++ ys) → AreApart (ys ++ xs)
apart_turned xs ys h i j d below inside same = by (cases_lt i (length ys)) (cases_lt j (length ys))
  where
    by : (i < length ys) ⊎ (length ys ≤ i) → (j < length ys) ⊎ (length ys ≤ j) → ⊥
    by (inl a) (inl b) =
        let whole = length-append xs ys in
        h (length xs + i) (length xs + j) d (omega arith) (omega arith) (sym (in_first xs ys d i a) ∙ same ∙ in_first xs ys d j b)
    by (inl a) (inr b) =
        let whole = length-append xs ys in
        let turned = length-append ys xs in
        h (j - length ys) (length xs + i) d (omega arith) (omega arith) (sym (in_second xs ys d j b (omega arith)) ∙ sym same ∙ in_first xs ys d i a)
    by (inr a) (inl b) = omega arith
    by (inr a) (inr b) =
        let whole = length-append xs ys in
        let turned = length-append ys xs in
        h (i - length ys) (j - length ys) d (omega arith) (omega arith)
        (sym (in_second xs ys d i a (omega arith)) ∙ same ∙ in_second xs ys d j b (omega arith))

pub apart_drop : (n : ℕ) (xs : List ℕ) → AreApart xs → AreApart (drop n xs)
apart_drop n xs h i j d below inside same =
    let long = length-drop n xs in
    h (n + i) (n + j) d (omega arith) (omega arith) (sym (get_or-drop n xs i d) ∙ same ∙ get_or-drop n xs j d)

-- ---- the lowest first

in_round : (round : List ℕ) (k p : ℕ) → Contains (drop k round ++ take k round) p → Contains round p
in_round round k p has =
    subst (λ (xs : List ℕ). Contains xs p) (take-append-drop k round)
    (elim (Contains-append_cases (drop k round) (take k round) p has) [
      | inl back ↦ Contains-append_right (take k round) (drop k round) p back
      | inr front ↦ Contains-append_left (take k round) (drop k round) p front
    ])

first_is : (round : List ℕ) (k : ℕ) → k < length round → get_or (drop k round ++ take k round) 0 0 ≡ get_or round k 0
first_is round k l =
    let long = length-drop k round in
    let here : k + 0 ≡ k = omega arith in
    get_or_append_left (drop k round) (take k round) 0 0 (omega arith) ∙ get_or-drop k round 0 0 ∙ ap (λ (n : ℕ). get_or round n 0) here

pub listed_once : (round : List ℕ) (k : ℕ) → AreApart round → IsFirstBest nat_lt round (length round) k → IsListedOnce (drop k round ++ take k round)
listed_once round k apart best = record {
  once = apart_turned (take k round) (drop k round) (subst AreApart (sym (take-append-drop k round)) apart);
  lowest = λ p has. below p (in_round round k p has);
}
  where
    below : (p : ℕ) → Contains round p → get_or (drop k round ++ take k round) 0 0 ≤ p
    below p (n, l, is) =
        let least = ltb-false (get_or round n p) (get_or round k p) (best.1 n p l) in
        let first = first_is round k best.0 in
        let same = get_or_default round k 0 p best.0 in
        omega arith

-- ---- paths

-- a path whose places are noted has each process once
pub path_apart : (places : List (Option ℕ)) (path : List ℕ) → ((i : ℕ) → i < length path → get_or places (get_or path i 0) None ≡ Some i) → AreApart path
path_apart places path noted i j d below inside same =
    let e = get_or_default path i 0 d (omega arith) ∙ same ∙ get_or_default path j d 0 inside in
    let n : i ≡ j = some_same (sym (noted i (omega arith)) ∙ ap (λ (p : ℕ). get_or places p None) e ∙ noted j inside) in
    omega arith

-- one process more, which wasn't noted
pub noted_more : (places : List (Option ℕ)) (path : List ℕ) (at x : ℕ) → at < length places → x ≡ length path → get_or places at None ≡ None
    → ((i : ℕ) → i < length path → get_or places (get_or path i 0) None ≡ Some i)
    → (i : ℕ) → i < length (path ++ at ∷ []) → get_or (set places at (Some x)) (get_or (path ++ at ∷ []) i 0) None ≡ Some i
noted_more places path at x l n none noted i less = by (cases_lt i (length path))
  where
    by : (i < length path) ⊎ (length path ≤ i) → get_or (set places at (Some x)) (get_or (path ++ at ∷ []) i 0) None ≡ Some i
    by (inl m) =
        let apart : get_or path i 0 ≡ at → ⊥ = λ e. (let here = ap (λ (r : ℕ). get_or places r None) e in let there = noted i m in cc) in
        ap (λ (r : ℕ). get_or (set places at (Some x)) r None) (get_or_append_left path (at ∷ []) 0 i m)
        ∙ get_or-set_other places at (get_or path i 0) (Some x) None apart ∙ noted i m
    by (inr m) =
        let e : x ≡ i = (let k = length_push path at in omega arith) in
        ap (λ (r : ℕ). get_or (set places at (Some x)) r None) (get_or_push path at 0 i (sym n ∙ e)) ∙ get_or-set_same places at (Some x) None l ∙ ap (λ (k : ℕ). Some k) e
