-- Runs of numbers, and segments of lists.
use Rattle.std.proofs.Common.{◌≡◌, ℕ, zero, suc, ◌+◌, ◌-◌, ◌<◌, List, [], ◌∷◌, ◌++◌, length, map, take, drop, Some, refl, sym, ap, ◌∙◌, arith, append_assoc}
use Rattle.std.specs.Prelude.{slice_get, slice_index, slice_range}
use Rattle.std.specs.List.{range_with_len}
use Rattle.std.proofs.lemmas.List.{length-append, get_or-append-add}

-- a run, and the run after it
pub run-append : (a m n : ℕ) → range_with_len a m ++ range_with_len (a + m) n ≡ range_with_len a (m + n)
run-append a zero n =
    let e : a + 0 ≡ a = omega arith in
    let f : 0 + n ≡ n = omega arith in
    ap (λ b. range_with_len b n) e ∙ ap (range_with_len a) (sym f)
run-append a (suc m) n =
    let e : a + suc m ≡ (a + 1) + m = omega arith in
    let f : suc m + n ≡ suc (m + n) = omega arith in
    ap (λ b. a ∷ (range_with_len (a + 1) m ++ range_with_len b n)) e ∙ ap (λ xs. a ∷ xs) (run-append (a + 1) m n) ∙ ap (range_with_len a) (sym f)

drop-past : {A : Type 0} (front xs : List A) → drop (length front) (front ++ xs) ≡ xs
drop-past [] xs = refl
drop-past (x ∷ front) xs = drop-past front xs

take-within : {A : Type 0} (xs rest : List A) → take (length xs) (xs ++ rest) ≡ xs
take-within [] rest = refl
take-within (x ∷ xs) rest = ap (λ ys. x ∷ ys) (take-within xs rest)

-- the segment between these places
pub segment : {A : Type 0} (front xs rest : List A) (a b : ℕ) → length front ≡ a → a + length xs ≡ b → slice_range (front ++ (xs ++ rest)) a b ≡ xs
segment front xs rest a b h k =
    let e : b - a ≡ length xs = omega arith in
    ap (λ n. take n (drop a (front ++ (xs ++ rest)))) e ∙ ap (λ n. take (length xs) (drop n (front ++ (xs ++ rest)))) (sym h)
    ∙ ap (take (length xs)) (drop-past front (xs ++ rest)) ∙ take-within xs rest

-- reading a list at each of its places
pub reads-all : (front xs rest : List ℕ) (a : ℕ) → length front ≡ a
    → map (λ k. slice_index (front ++ (xs ++ rest)) (a + k)) (range_with_len 0 (length xs)) ≡ xs
reads-all front xs rest a h = from front xs rest 0 a (h ∙ omega arith)
  where
    from : (front xs rest : List ℕ) (k a : ℕ) → length front ≡ a + k
        → map (λ j. slice_index (front ++ (xs ++ rest)) (a + j)) (range_with_len k (length xs)) ≡ xs
    from front [] rest k a h = refl
    from front (x ∷ xs) rest k a h =
        let e : a + k ≡ length front + 0 = omega arith in
        let first : slice_index (front ++ (x ∷ (xs ++ rest))) (a + k) ≡ x =
        ap (slice_index (front ++ (x ∷ (xs ++ rest)))) e ∙ get_or-append-add front (x ∷ (xs ++ rest)) 0 0 in
        let same : front ++ (x ∷ (xs ++ rest)) ≡ (front ++ x ∷ []) ++ (xs ++ rest) = sym (append_assoc front (x ∷ []) (xs ++ rest)) in
        let len : length (front ++ x ∷ []) ≡ a + (k + 1) = length-append front (x ∷ []) ∙ (let l = h in omega arith) in
        ap (λ y. y ∷ map (λ j. slice_index (front ++ (x ∷ (xs ++ rest))) (a + j)) (range_with_len (k + 1) (length xs))) first
        ∙ ap (λ (zs : List ℕ). x ∷ map (λ j. slice_index zs (a + j)) (range_with_len (k + 1) (length xs))) same
        ∙ ap (λ ys. x ∷ ys) (from (front ++ x ∷ []) xs rest (k + 1) a len)

-- ---- elements of a list that another follows

pub get-left : {A : Type 0} (xs ys : List A) (k : ℕ) → k < length xs → slice_get (xs ++ ys) k ≡ slice_get xs k
get-left [] ys k h = absurd (omega arith)
get-left (x ∷ xs) ys zero h = refl
get-left (x ∷ xs) ys (suc k) h = get-left xs ys k (omega arith)

pub get-last : {A : Type 0} (xs : List A) (x : A) → slice_get (xs ++ x ∷ []) (length xs) ≡ Some x
get-last [] x = refl
get-last (y ∷ xs) x = get-last xs x
