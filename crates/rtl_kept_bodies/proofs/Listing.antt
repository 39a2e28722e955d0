-- The variables that are kept, listed one after another.
use Rattle.std.proofs.Common.{◌≡◌, ℕ, zero, suc, ◌+◌, ◌<◌, ◌≤◌, Bool, true, false, ◌||◌, List, [], ◌∷◌, ◌++◌, length, get_or, drop, map, append-nil, append_assoc, length-append, refl, sym, ap, ◌∙◌, arith}
use Rattle.std.specs.List.{list_any, range_with_len}
use Rattle.std.proofs.lemmas.List.{at_drop_more, at_drop_all}
use Rattle.rtl_model.specs.nets.FlatNetlist.{element_starts}
use Rattle.rtl_net.specs.Nets.{variable_view}
use Rattle.rtl_net.specs.declared.process.Variable.{Variable}
use Rattle.rtl_body_facts.proofs.EveryPath.{any_append}
use Rattle.rtl_kept_bodies.proofs.Ranks.{range_more}
use Rattle.rtl_kept_bodies.specs.Rules.{keeps_each}
use Rattle.rtl_kept_bodies.specs.Steps.{kept_count}

-- ---- one of some elements

pub range_found : (f : ℕ → Bool) (a n k : ℕ) → k < n → f (a + k) ≡ true → true ≡ list_any f (range_with_len a n)
range_found f a zero k l h = absurd (omega arith)
range_found f a (suc n) zero l h =
    let at : a ≡ a + 0 = omega arith in
    sym (ap (λ (b : Bool). b || list_any f (range_with_len (a + 1) n)) (ap f at ∙ h))
range_found f a (suc n) (suc k) l h =
    let at : (a + 1) + k ≡ a + suc k = omega arith in
    or_true (f a) (list_any f (range_with_len (a + 1) n)) (range_found f (a + 1) n k (omega arith) (ap f at ∙ h))
  where
    or_true : (x y : Bool) → true ≡ y → true ≡ (x || y)
    or_true true y h = refl
    or_true false y h = h

pub range_not_more : (f : ℕ → Bool) (a k : ℕ) → list_any f (range_with_len a k) ≡ false → f (a + k) ≡ false → list_any f (range_with_len a (k + 1)) ≡ false
range_not_more f a k h n =
    ap (list_any f) (range_more a k) ∙ any_append f (range_with_len a k) ((a + k) ∷ []) ∙ ap (λ (b : Bool). b || (f (a + k) || false)) h ∙ ap (λ (b : Bool). b || false) n

-- ---- flags

pub flags_more : (keeps : ℕ → Bool) (whole flags more : List Bool) (vs : List Variable) (i e len : ℕ) (v : Variable) (b : Bool) → i < length vs → v ≡ get_or vs i v
    → whole ≡ flags ++ keeps_each keeps e (map variable_view (drop i vs)) → len ≡ length v.starts.items → b ≡ list_any keeps (range_with_len e len)
    → more ≡ flags ++ b ∷ [] → whole ≡ more ++ keeps_each keeps (e + len) (map variable_view (drop (i + 1) vs))
flags_more keeps whole flags more vs i e len v b l at so_far long h pushed =
    so_far ∙ at_drop_more (λ (ys : List Variable). flags ++ keeps_each keeps e (map variable_view ys)) vs i v l
    ∙ ap (λ (w : Variable). flags ++ (list_any keeps (range_with_len e (length w.starts.items)) ∷ keeps_each keeps (e + length w.starts.items) (map variable_view (drop (i + 1) vs)))) (sym at)
    ∙ ap (λ (n : ℕ). flags ++ (list_any keeps (range_with_len e n) ∷ keeps_each keeps (e + n) (map variable_view (drop (i + 1) vs)))) (sym long)
    ∙ ap (λ (x : Bool). flags ++ (x ∷ keeps_each keeps (e + len) (map variable_view (drop (i + 1) vs)))) (sym h)
    ∙ sym (append_assoc flags (b ∷ []) (keeps_each keeps (e + len) (map variable_view (drop (i + 1) vs))))
    ∙ ap (λ (xs : List Bool). xs ++ keeps_each keeps (e + len) (map variable_view (drop (i + 1) vs))) (sym pushed)

pub flags_done : (keeps : ℕ → Bool) (whole flags : List Bool) (vs : List Variable) (i e : ℕ) → length vs ≤ i
    → whole ≡ flags ++ keeps_each keeps e (map variable_view (drop i vs)) → flags ≡ whole
flags_done keeps whole flags vs i e past so_far =
    sym (so_far ∙ at_drop_all (λ (ys : List Variable). flags ++ keeps_each keeps e (map variable_view ys)) vs i past ∙ append-nil flags)

abbrev pub elements_in : List Variable → ℕ
elements_in vs = length (element_starts (map variable_view vs))

pub elements_more : (vs : List Variable) (i : ℕ) (v : Variable) → i < length vs → v ≡ get_or vs i v
    → elements_in (drop i vs) ≡ length v.starts.items + elements_in (drop (i + 1) vs)
elements_more vs i v l at =
    at_drop_more elements_in vs i v l ∙ ap (λ (w : Variable). elements_in (w ∷ drop (i + 1) vs)) (sym at)
    ∙ length-append v.starts.items (element_starts (map variable_view (drop (i + 1) vs)))

-- ---- counts

pub count_below : (fs : List Bool) (vs : List Variable) → kept_count fs vs ≤ elements_in vs
count_below (true ∷ fs) (v ∷ vs) =
    let h = count_below fs vs in
    let long = length-append v.starts.items (element_starts (map variable_view vs)) in omega (arith, h, long)
count_below (false ∷ fs) (v ∷ vs) =
    let h = count_below fs vs in
    let long = length-append v.starts.items (element_starts (map variable_view vs)) in omega (arith, h, long)
count_below [] vs = omega arith
count_below (true ∷ fs) [] = omega arith
count_below (false ∷ fs) [] = omega arith

pub count_past : (fs : List Bool) (vs : List Variable) (i : ℕ) → i < length fs → i < length vs → get_or fs i true ≡ false
    → kept_count (drop i fs) (drop i vs) ≡ kept_count (drop (i + 1) fs) (drop (i + 1) vs)
count_past [] vs i l m h = absurd (omega arith)
count_past (f ∷ fs) [] i l m h = absurd (omega arith)
count_past (f ∷ fs) (v ∷ vs) zero l m h = ap (λ (b : Bool). kept_count (b ∷ fs) (v ∷ vs)) h
count_past (f ∷ fs) (v ∷ vs) (suc i) l m h =
    count_past fs vs i (omega arith) (omega arith) h
    ∙ ap (λ j. kept_count (drop j (f ∷ fs)) (drop j (v ∷ vs))) (let e : suc (i + 1) ≡ suc i + 1 = omega arith in e)

pub count_more : (fs : List Bool) (vs : List Variable) (i : ℕ) (v : Variable) → i < length fs → i < length vs → get_or fs i true ≡ true → v ≡ get_or vs i v
    → kept_count (drop i fs) (drop i vs) ≡ length v.starts.items + kept_count (drop (i + 1) fs) (drop (i + 1) vs)
count_more [] vs i v l m h at = absurd (omega arith)
count_more (f ∷ fs) [] i v l m h at = absurd (omega arith)
count_more (f ∷ fs) (w ∷ ws) zero v l m h at =
    ap (λ (b : Bool). kept_count (b ∷ fs) (w ∷ ws)) h ∙ ap (λ (x : Variable). length x.starts.items + kept_count fs ws) (sym at)
count_more (f ∷ fs) (w ∷ ws) (suc i) v l m h at =
    count_more fs ws i v (omega arith) (omega arith) h at
    ∙ ap (λ j. length v.starts.items + kept_count (drop j (f ∷ fs)) (drop j (w ∷ ws))) (let e : suc (i + 1) ≡ suc i + 1 = omega arith in e)

-- ---- what elements start with

abbrev starts_in : List Variable → List ℕ
starts_in vs = element_starts (map variable_view vs)

pub starts_more : (whole now new : List ℕ) (vs : List Variable) (i : ℕ) (v : Variable) → i < length vs → v ≡ get_or vs i v
    → now ++ element_starts (map variable_view (drop i vs)) ≡ whole → new ≡ now ++ v.starts.items
    → new ++ element_starts (map variable_view (drop (i + 1) vs)) ≡ whole
starts_more whole now new vs i v l at so_far pushed =
    ap (λ (xs : List ℕ). xs ++ starts_in (drop (i + 1) vs)) pushed ∙ append_assoc now v.starts.items (starts_in (drop (i + 1) vs))
    ∙ sym (at_drop_more (λ (ys : List Variable). now ++ starts_in ys) vs i v l ∙ ap (λ (w : Variable). now ++ starts_in (w ∷ drop (i + 1) vs)) (sym at)) ∙ so_far

pub starts_done : (whole now : List ℕ) (vs : List Variable) (i : ℕ) → length vs ≤ i → now ++ element_starts (map variable_view (drop i vs)) ≡ whole → now ≡ whole
starts_done whole now vs i past so_far = sym (append-nil now) ∙ sym (at_drop_all (λ (ys : List Variable). now ++ starts_in ys) vs i past) ∙ so_far
