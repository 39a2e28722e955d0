-- Values that differ, lane by lane and part by part.
use Rattle.std.proofs.Common.{◌≡◌, ℕ, Bool, true, false, not, cond, eqb, List, [], ◌∷◌, ◌++◌, ◌+◌, ◌-◌, length, map, take, drop, take-add, w8, refl, ap, ap₂, ◌∙◌, ◌≤◌, ◌%◌, ◌^◌, sym, arith, ⊎_elim}
use Rattle.std.specs.Str.{bytes_eq}
use Rattle.std.proofs.lemmas.Bool.{eqb-true, eqb-false, cases_Bool, false_from_ne_true, both_ways, not-true, not-false}
use Rattle.std.proofs.lemmas.List.{take-append-drop, take_rest}
use Rattle.std.proofs.lemmas.Simd.{length-zip2, tops_compared, mask_l-mod}
use Rattle.std.proofs.lemmas.Slice.Eq.{bytes_eq-Decides}
use lib.Lanes.{top, zip2, mask_l}

-- the mask of the lanes that differ
abbrev pub differ_at : ℕ → ℕ → Bool
differ_at a b = not (eqb a b)

none_differ : (xs ys : List ℕ) → length xs ≡ length ys → mask_l (zip2 differ_at xs ys) ≡ 0 → xs ≡ ys
none_differ [] [] long none = refl
none_differ [] (y ∷ ys) long none = absurd (omega (arith, long))
none_differ (x ∷ xs) [] long none = absurd (omega (arith, long))
none_differ (x ∷ xs) (y ∷ ys) long none =
    ⊎_elim (λ same.
    let rest : xs ≡ ys = none_differ xs ys (omega (arith, long)) (omega (arith, none)) in
    ap (λ v. v ∷ xs) (eqb-true x y same) ∙ ap (λ vs. y ∷ vs) rest)
    (λ other. let one : ◌≡◌ {A = ℕ} (cond (differ_at x y) 1 0) 1 = ap (λ b. cond (not b) 1 0) other in absurd (omega (arith, none, one)))
    (cases_Bool (eqb x y))

same_mask : (xs : List ℕ) → mask_l (zip2 differ_at xs xs) ≡ 0
same_mask [] = refl
same_mask (x ∷ xs) =
    ⊎_elim (λ same. let none : ◌≡◌ {A = ℕ} (cond (differ_at x x) 1 0) 0 = ap (λ b. cond (not b) 1 0) same in omega (arith, none, same_mask xs))
    (λ other. absurd (eqb-false x x other refl))
    (cases_Bool (eqb x x))

-- whether the mask is 0 tells whether two vectors are the same
pub differ_tells : (xs ys : List ℕ) → length xs ≡ length ys → length xs ≤ 64
    → not (eqb (mask_l (map (top 7) (zip2 (λ a b. cond (differ_at a b) 255 0) xs ys)) % 2 ^ 64) 0) ≡ not (bytes_eq xs ys)
differ_tells xs ys long most =
    let ms = zip2 differ_at xs ys in
    let few : length ms ≤ 64 = omega (arith, length-zip2 differ_at xs ys long, most) in
    let mask = ap (λ bs. mask_l bs % 2 ^ 64) (tops_compared w8 differ_at xs ys) ∙ mask_l-mod ms 64 few in
    let tells : eqb (mask_l ms) 0 ≡ bytes_eq xs ys =
    ⊎_elim (λ t. ap (λ zs. eqb (mask_l (zip2 differ_at xs zs)) 0) (sym ((bytes_eq-Decides xs ys).0 t)) ∙ ap (λ k. eqb k 0) (same_mask xs) ∙ sym t)
    (λ f. false_from_ne_true (eqb (mask_l ms) 0)
    (λ z. both_ways (bytes_eq xs ys) f ((bytes_eq-Decides xs ys).1 (none_differ xs ys long (eqb-true (mask_l ms) 0 z)))) ∙ sym f)
    (cases_Bool (bytes_eq xs ys)) in
    ap (λ k. not (eqb k 0)) mask ∙ ap not tells

-- ---- what a test says

pub are_same : {a b : List ℕ} → a ≡ b → false ≡ not (bytes_eq a b)
are_same e = ap not (sym ((bytes_eq-Decides _ _).1 e))

pub are_others : (a b : List ℕ) → (a ≡ b → ⊥) → true ≡ not (bytes_eq a b)
are_others a b differ = ap not (sym (false_from_ne_true (bytes_eq a b) (λ t. differ ((bytes_eq-Decides a b).0 t))))

pub same_from : (a b : List ℕ) → false ≡ not (bytes_eq a b) → a ≡ b
same_from a b e = (bytes_eq-Decides a b).0 (not-false (bytes_eq a b) (sym e))

pub others_from : (a b : List ℕ) → true ≡ not (bytes_eq a b) → a ≡ b → ⊥
others_from a b e same = both_ways (bytes_eq a b) (not-true (bytes_eq a b) (sym e)) ((bytes_eq-Decides a b).1 same)

-- ---- parts

-- where the first are alike, the others tell
pub rest_tells : (n : ℕ) (old new : List ℕ) → take n old ≡ take n new
    → bytes_eq (take (length old - n) (drop n old)) (take (length new - n) (drop n new)) ≡ bytes_eq old new
rest_tells n old new e =
    rw (take_rest old n, take_rest new n) (same_test (drop n old) (drop n new) old new
    (λ r. sym (take-append-drop n old) ∙ ap₂ (λ xs ys. xs ++ ys) e r ∙ take-append-drop n new) (ap (drop n)))
  where
    same_test : (a b c d : List ℕ) → (a ≡ b → c ≡ d) → (c ≡ d → a ≡ b) → bytes_eq a b ≡ bytes_eq c d
    same_test a b c d to from =
        ⊎_elim (λ t. t ∙ sym ((bytes_eq-Decides c d).1 (to ((bytes_eq-Decides a b).0 t))))
        (λ f. f ∙ sym (false_from_ne_true (bytes_eq c d) (λ t. both_ways (bytes_eq a b) f ((bytes_eq-Decides a b).1 (from ((bytes_eq-Decides c d).0 t))))))
        (cases_Bool (bytes_eq a b))

pub further_alike : (n m : ℕ) (old new : List ℕ) → take n old ≡ take n new
    → take m (take (length old - n) (drop n old)) ≡ take m (take (length new - n) (drop n new)) → take (n + m) old ≡ take (n + m) new
further_alike n m old new first next =
    take-add n m old ∙ ap₂ (λ xs ys. xs ++ ys) first (sym (ap (take m) (take_rest old n)) ∙ next ∙ ap (take m) (take_rest new n)) ∙ sym (take-add n m new)

pub rest_alike : (n : ℕ) (old new : List ℕ) → old ≡ new → take (length old - n) (drop n old) ≡ take (length new - n) (drop n new)
rest_alike n old new e = ap (λ (xs : List ℕ). take (length xs - n) (drop n xs)) e
