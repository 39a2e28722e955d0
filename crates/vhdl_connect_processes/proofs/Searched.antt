-- The places of elements among rising ones.
use Rattle.std.proofs.Common.{◌≡◌, ℕ, zero, suc, ◌+◌, ◌-◌, ◌<◌, ◌≤◌, Bool, true, false, cond, ◌==◌, ltb, eq-eqb, List, [], ◌∷◌, length, map, get_or, All, Ok, Err, refl, sym, ap, ◌∙◌, arith}
use Rattle.std.specs.Prelude.{Contains}
use Rattle.std.specs.List.{range_with_len}
use Rattle.std.specs.List.Sorted.{IsBinarySearchResult}
use Rattle.std.specs.Ordering.{nat_cmp}
use Rattle.std.proofs.lemmas.List.{get_or_default}
use Rattle.std.proofs.lemmas.List.Elements.{All-head, All-tail}
use Rattle.std.proofs.lemmas.List.Sorted.{searched}
use Rattle.std.proofs.lemmas.Bool.{eqb-true}
use borrow.Author.Tests.{ltb-true, ltb-false}
use Rattle.vhdl_elab_rules.specs.Bodies.{place_in}
use Rattle.vhdl_connect_processes.specs.Connected.{IsRising}

tail-rising : (d : ℕ) (ds : List ℕ) → IsRising (d ∷ ds) → IsRising ds
tail-rising d ds h i j below there = let e = h (suc i) (suc j) (omega arith) (omega arith) in omega (arith, e)

below_itself : (d e x i : ℕ) → d ≡ e → d + suc i ≤ x → x ≡ e → ⊥
below_itself d e x i h above is = omega arith

pub place_found : (ds : List ℕ) (e i : ℕ) → IsRising ds → i < length ds → get_or ds i 0 ≡ e → place_in ds e ≡ i
place_found [] e i rising there is = absurd (omega arith)
place_found (d ∷ ds) e zero rising there is = same (d == e) refl
  where
    same : (b : Bool) → (d == e) ≡ b → cond b 0 (suc (place_in ds e)) ≡ 0
    same true h = refl
    same false h = absurd (let k : (d == e) ≡ true = eq-eqb d e is in cc)
place_found (d ∷ ds) e (suc i) rising there is = other (d == e) refl (let k = rising 0 (suc i) (omega arith) there in omega (arith, k)) (place_found ds e i (tail-rising d ds rising) (omega arith) is)
  where
    other : (b : Bool) → (d == e) ≡ b → d + suc i ≤ get_or ds i 0 → place_in ds e ≡ i → cond b 0 (suc (place_in ds e)) ≡ suc i
    other true h above k = absurd (below_itself d e (get_or ds i 0) i (eqb-true d e h) above is)
    other false h above k = ap suc k

no-falls : (ds : List ℕ) → IsRising ds → (i j : ℕ) → i ≤ j → j < length ds → get_or ds i 0 ≤ get_or ds j 0
no-falls ds rising i j below there = let e = rising i j below there in omega (arith, e)

pub place_there : (ds : List ℕ) (e i : ℕ) → IsRising ds → IsBinarySearchResult (λ y. nat_cmp y e) ds (Ok i) → place_in ds e ≡ i
place_there ds e i rising h =
    let s = searched ds e (Ok i) h (no-falls ds rising) in
    place_found ds e i rising s.0 s.1

pub place_below : (ds : List ℕ) (e i : ℕ) → IsRising ds → IsBinarySearchResult (λ y. nat_cmp y e) ds (Ok i) → i ≤ e
place_below ds e i rising h =
    let s = searched ds e (Ok i) h (no-falls ds rising) in
    let above = rising 0 i (omega arith) s.0 in
    omega (arith, above, s.1)

at-itself : (ds : List ℕ) (e : ℕ) (h : Contains ds e) → get_or ds h.0 0 ≡ e
at-itself ds e h = get_or_default ds h.0 0 e h.1 ∙ h.2

pub not_there : (ds : List ℕ) (e i : ℕ) → IsRising ds → IsBinarySearchResult (λ y. nat_cmp y e) ds (Err i) → Contains ds e → ⊥
not_there ds e i rising h there =
    let s = searched ds e (Err i) h (no-falls ds rising) in
    side there.0 there.1 (at-itself ds e there) (s.1 there.0) (s.2 there.0)
  where
    side : (k : ℕ) → k < length ds → get_or ds k 0 ≡ e → (k < i → get_or ds k 0 < e) → (i ≤ k → k < length ds → e < get_or ds k 0) → ⊥
    side k below is low high = by (ltb k i) refl
      where
        by : (b : Bool) → ltb k i ≡ b → ⊥
        by true h = let l = low (ltb-true k i h) in omega arith
        by false h = let l = high (ltb-false k i h) below in omega arith

-- ---- elements one after another

next-at : (ds : List ℕ) (i j e : ℕ) → IsRising ds → i < length ds → j < length ds → get_or ds i 0 ≡ e → get_or ds j 0 ≡ e + 1 → j ≡ i + 1
next-at ds i j e rising h k here next = by (ltb i j) refl
  where
    by : (b : Bool) → ltb i j ≡ b → j ≡ i + 1
    by true w =
        let above : i < j = ltb-true i j w in
        let up : get_or ds i 0 + (j - i) ≤ get_or ds j 0 = rising i j (omega (arith, above)) k in
        omega (arith, above, up, here, next)
    by false w =
        let below : j ≤ i = ltb-false i j w in
        let down : get_or ds j 0 + (i - j) ≤ get_or ds i 0 = rising j i below h in
        absurd (omega (arith, below, down, here, next))

next-place : (ds : List ℕ) (e : ℕ) → IsRising ds → Contains ds e → Contains ds (e + 1) → place_in ds (e + 1) ≡ place_in ds e + 1
next-place ds e rising h k =
    let i : place_in ds e ≡ h.0 = place_found ds e h.0 rising h.1 (at-itself ds e h) in
    let j : place_in ds (e + 1) ≡ k.0 = place_found ds (e + 1) k.0 rising k.1 (at-itself ds (e + 1) k) in
    omega (arith, i, j, next-at ds h.0 k.0 e rising h.1 k.1 (at-itself ds e h) (at-itself ds (e + 1) k))

run-found : (ds : List ℕ) (first len : ℕ) → IsRising ds → All (Contains ds) (range_with_len first len) → map (place_in ds) (range_with_len first len) ≡ range_with_len (place_in ds first) len
run-found ds first (suc (suc n)) rising h =
    let others = All-tail (Contains ds) first (range_with_len (first + 1) (suc n)) h in
    let next = next-place ds first rising (All-head (Contains ds) first (range_with_len (first + 1) (suc n)) h) (All-head (Contains ds) (first + 1) (range_with_len (first + 1 + 1) n) others) in
    ap (λ ps. place_in ds first ∷ ps) (run-found ds (first + 1) (suc n) rising others ∙ ap (λ p. range_with_len p (suc n)) next)
run-found ds first _ rising h = refl

-- they all are there, and this is the place of the first
pub run_places : (ds : List ℕ) (first len place : ℕ) → IsRising ds → All (Contains ds) (range_with_len first len) → (Contains ds first → place ≡ place_in ds first)
    → range_with_len place len ≡ map (place_in ds) (range_with_len first len)
run_places ds first zero place rising h is = refl
run_places ds first (suc n) place rising h is =
    ap (λ p. range_with_len p (suc n)) (is (All-head (Contains ds) first (range_with_len (first + 1) n) h)) ∙ sym (run-found ds first (suc n) rising h)
