-- Whether numbers are in a list.
use Rattle.std.proofs.Common.{◌≡◌, ℕ, ◌+◌, ◌<◌, ◌≤◌, true, false, ◌||◌, ◌==◌, List, [], ◌∷◌, ◌++◌, length, get_or, sym, ◌∙◌, subst, arith, ◌⊎◌, inl, inr, Contains, Result, Ok, Err}
use Rattle.std.specs.Prelude.{MatchResult, slice_index}
use Rattle.std.specs.List.{range_with_len}
use Rattle.std.specs.Result.{is_ok}
use Rattle.std.specs.List.Sorted.{IsStrictlyIncreasing, IsBinarySearchResult}
use Rattle.std.specs.Ordering.{nat_cmp}
use Rattle.std.proofs.lemmas.List.{get_or_default}
use Rattle.std.proofs.lemmas.Bool.{cases_Bool, cases_lt}
use Rattle.std.proofs.lemmas.List.Folds.{list_any-append}
use Rattle.std.proofs.lemmas.List.FromFn.{length-range_with_len, get_or-range_with_len}
use Rattle.std.proofs.lemmas.List.Kept.{AllPairs-from_increasing}
use Rattle.std.proofs.lemmas.List.Sorted.{searched}
use Rattle.rtl_model.specs.basics.Lists.{RisesBy}
use Rattle.rtl_model.proofs.basics.Lists.{in_contains, contains_in}
use Rattle.rtl_model.proofs.basics.Rising.{same_elements}
use Rattle.rtl_body_facts.specs.Reading.{is_in}

pub in_append : (n : ℕ) (xs ys : List ℕ) → is_in n (xs ++ ys) ≡ (is_in n xs || is_in n ys)
in_append n xs ys = list_any-append (λ m. m == n) xs ys

pub in_has : (xs : List ℕ) (n : ℕ) → is_in n xs ≡ true → Contains xs n
in_has = in_contains

pub has_in : (xs : List ℕ) (n : ℕ) → Contains xs n → is_in n xs ≡ true
has_in = contains_in

pub not_in : (xs : List ℕ) (n : ℕ) → (Contains xs n → ⊥) → is_in n xs ≡ false
not_in xs n none = go (cases_Bool (is_in n xs))
  where
    go : (is_in n xs ≡ true) ⊎ (is_in n xs ≡ false) → is_in n xs ≡ false
    go (inl e) = absurd (none (in_contains xs n e))
    go (inr e) = e

pub lacks : (xs : List ℕ) (n : ℕ) → is_in n xs ≡ false → Contains xs n → ⊥
lacks xs n e c = let t = contains_in xs n c in let k : true ≡ false = sym t ∙ e in cc

pub same_members : (xs ys : List ℕ) (n : ℕ) → (Contains xs n → Contains ys n) → (Contains ys n → Contains xs n) → is_in n xs ≡ is_in n ys
same_members xs ys n to from = go (cases_Bool (is_in n xs))
  where
    go : (is_in n xs ≡ true) ⊎ (is_in n xs ≡ false) → is_in n xs ≡ is_in n ys
    go (inl e) = e ∙ sym (contains_in ys n (to (in_contains xs n e)))
    go (inr e) = e ∙ sym (not_in ys n (λ c. lacks xs n e (from c)))

rises_by_number : (xs : List ℕ) → IsStrictlyIncreasing xs → RisesBy (λ n. n ∷ []) xs
rises_by_number xs rise i j d l k = inl (AllPairs-from_increasing xs rise i j d l k)

-- a rising list is known by what is in it
pub same_rising : (xs ys : List ℕ) → IsStrictlyIncreasing xs → IsStrictlyIncreasing ys → ((n : ℕ) → is_in n xs ≡ is_in n ys) → xs ≡ ys
same_rising xs ys rise rise' same =
    same_elements (λ n. n ∷ []) xs ys (rises_by_number xs rise) (rises_by_number ys rise')
    (λ n c. in_has ys n (sym (same n) ∙ has_in xs n c)) (λ n c. in_has xs n (same n ∙ has_in ys n c))

pub range_rises : (count : ℕ) → IsStrictlyIncreasing (range_with_len 0 count)
range_rises count k l =
    let many = length-range_with_len 0 count in
    let here : slice_index (range_with_len 0 count) k ≡ 0 + k = get_or-range_with_len 0 count k 0 (omega (arith, l, many)) in
    let next : slice_index (range_with_len 0 count) (k + 1) ≡ 0 + (k + 1) = get_or-range_with_len 0 count (k + 1) 0 (omega (arith, l, many)) in
    omega (arith, here, next)

pub found_in : (xs : List ℕ) (n : ℕ) (r : Result ℕ ℕ) → IsStrictlyIncreasing xs → IsBinarySearchResult (λ y. nat_cmp y n) xs r → is_ok r ≡ is_in n xs
found_in xs n r rise h = go r (searched xs n r h ordered)
  where
    ordered : (i j : ℕ) → i ≤ j → j < length xs → get_or xs i 0 ≤ get_or xs j 0
    ordered i j l m = at (cases i j l)
      where
        cases : (i j : ℕ) → i ≤ j → (i ≡ j) ⊎ (i < j)
        cases i j l = grind arith

        at : (i ≡ j) ⊎ (i < j) → get_or xs i 0 ≤ get_or xs j 0
        at (inl e) = let P : ℕ → Type 0 = λ k. get_or xs i 0 ≤ get_or xs k 0 in subst P e (omega arith)
        at (inr k) = let s = AllPairs-from_increasing xs rise i j 0 k m in omega arith

    go : (r : Result ℕ ℕ) → MatchResult r (λ i. (i < length xs) × (get_or xs i 0 ≡ n)) (λ i. (i ≤ length xs) × ((k : ℕ) → k < i → get_or xs k 0 < n) × ((k : ℕ) → i ≤ k → k < length xs → n < get_or xs k 0))
        → is_ok r ≡ is_in n xs
    go (Ok i) (l, e) = sym (contains_in xs n (i, l, get_or_default xs i n 0 l ∙ e))
    go (Err i) (l, low, high) = sym (not_in xs n none)
      where
        none : Contains xs n → ⊥
        none (k, m, e) = at (get_or_default xs k 0 n m ∙ e) (cases_lt k i)
          where
            at : get_or xs k 0 ≡ n → (k < i) ⊎ (i ≤ k) → ⊥
            at same (inl j) = let x = low k j in absurd (omega arith)
            at same (inr j) = let x = high k j m in absurd (omega arith)
