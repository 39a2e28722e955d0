-- Expanded aggregates fit: they have as many elements as indexes, 64 at most.
use Rattle.std.proofs.Common.{◌≡◌, ◌≢◌, ℕ, suc, ◌+◌, ◌-◌, ◌≤◌, Bool, true, false, cond, ◌==◌, List, [], ◌∷◌, ◌++◌, length, map, Option, Some, None, Ok, All, refl, sym, ap, ◌∙◌, subst, arith}
use Rattle.std.specs.Prelude.{ℤ, nat_le}
use Rattle.std.proofs.lemmas.Option.{same_Some}
use Rattle.std.proofs.lemmas.Bool.{eqb-true, eqb-false, leb-true}
use Rattle.std.proofs.lemmas.List.Elements.{All-cons, All-nil, All-head, All-tail, All-append, All-weaker}
use Rattle.std.proofs.lemmas.List.Sums.{sum_by-cons}
use Rattle.rtl_model.specs.bodies.Body as bodies
use Rattle.vhdl_tree.specs.declared.operator.Direction.TheVariants.{To}
use Rattle.rtl_model.specs.bodies.Fits.{IsWidth, width, FitsExpr}
use Rattle.vhdl_names_rules.specs.units.Expressions.{Range}
use Rattle.vhdl_expand_rules.specs.declared.fault.ElabProblem.TheVariants as problem
use Rattle.vhdl_expand_rules.specs.Elab.{Elab, ◌>>=◌, ◌>>◌, unless, refused, item_or, each}
use Rattle.vhdl_expand_rules.specs.Integers.{IntegerRange, Integers, extent, numbers_from}
use Rattle.vhdl_expand_rules.specs.Site.{Site}
use Rattle.vhdl_expand_rules.specs.Aggregates.{Placed, least_of, greatest_of, next, chosen, others, range_indexes, computed_range, given_indexes, listed, left_over, joined_from, joined_all, repeated, widths, filled_up, listed_values, placed_indexes, element_for, value_of, run_before, runs, elements_for, run_value, values_at, own_indexes, chosen_values, are_listed, composed}
use Rattle.vhdl_expand_rules.specs.laws.Sites.{scope_at}
use Rattle.vhdl_expand_rules.proofs.Parameters.{counted-length}
use Rattle.vhdl_expand_rules.proofs.Steps.{given, ok, bound, kept}
use Rattle.vhdl_expand_rules.proofs.laws.Names.{was_found}

-- ---- how many indexes there are

pub few-indexes : (at : ℕ) (r : IntegerRange) (is : List ℤ) → range_indexes at r ≡ Ok is → length is ≤ 64
few-indexes at r is h =
    let n : ℕ = extent r.direction r.left r.right in
    let few = bound (unless problem.TooWide at (nat_le n 64)) _ is h in
    let l : n ≤ 64 = leb-true n 64 (kept problem.TooWide at (nat_le n 64) few.x few.gave) in
    subst (λ (js : List ℤ). length js ≤ 64) (ok (numbers_from r.direction r.left n) is few.then_gave)
    (subst (λ m. m ≤ 64) (sym (counted-length r.direction r.left n)) l)

-- where some are given, they are 64 at most
abbrev pub Few : Option (List ℤ) → Type 0
Few all = (is : List ℤ) → all ≡ Some is → length is ≤ 64

pub given_few : (here : Integers) (at : ℕ) (r : Option Range) (all : Option (List ℤ)) → given_indexes here at r ≡ Ok all → Few all
given_few here at None all h is e = absurd (let k = ok None all h in cc)
given_few here at (Some r) all h is e =
    let range = bound (computed_range here at r) _ all h in
    let js = bound (range_indexes at range.x) _ all range.then_gave in
    let same : js.x ≡ is = same_Some js.x is (ok (Some js.x) all js.then_gave ∙ e) in
    subst (λ (ks : List ℤ). length ks ≤ 64) same (few-indexes at range.x js.x js.gave)

-- ---- expressions side by side

pub record Whole (here : Site) (e : bodies.Expr) : Type 0 where
  pub fits : FitsExpr (scope_at here) e
  pub width : IsWidth (width e)

pub record One (here : Site) (e : bodies.Expr) : Type 0 where
  pub fits : FitsExpr (scope_at here) e
  pub width : width e ≡ 1

abbrev Fit : Site → bodies.Expr → Type 0
Fit here e = FitsExpr (scope_at here) e

pub widths-cons : (e : bodies.Expr) (es : List bodies.Expr) → widths (e ∷ es) ≡ width e + widths es
widths-cons e es = sum_by-cons (λ n. n) (width e) (map width es)

pub widths-push : (es : List bodies.Expr) (e : bodies.Expr) → widths (es ++ e ∷ []) ≡ widths es + width e
widths-push [] e = widths-cons e [] ∙ (let c : width e + 0 ≡ 0 + width e = omega arith in c)
widths-push (d ∷ es) e =
    let whole = widths-cons d (es ++ e ∷ []) in
    let front = widths-cons d es in
    let rest = widths-push es e in
    omega (arith, whole, front, rest)

joined-whole : (here : Site) (d : bodies.Expr) (es : List bodies.Expr) → Whole here d → All (Fit here) es → width d + widths es ≤ 64 → Whole here (joined_from d es)
joined-whole here d [] w h l = w
joined-whole here d (e ∷ es) w h l =
    let c = widths-cons e es in
    let some : 1 ≤ width d = w.width.0 in
    let low : 1 ≤ width d + width e = omega (arith, some) in
    let high : width d + width e ≤ 64 = omega (arith, l, c) in
    let rest : width d + width e + widths es ≤ 64 = omega (arith, l, c) in
    joined-whole here (bodies.binary bodies.joined d e) es
    (record { fits = ((low, high), w.fits, All-head (Fit here) e es h, tt); width = (low, high) }) (All-tail (Fit here) e es h) rest

all-joined : (here : Site) (at : ℕ) (es : List bodies.Expr) (r : bodies.Expr) → All (Whole here) es → widths es ≤ 64 → joined_all at es ≡ Ok r → Whole here r
all-joined here at [] r h l k = absurd cc
all-joined here at (e ∷ es) r h l k =
    subst (Whole here) (ok (joined_from e es) r k)
    (joined-whole here e es (All-head (Whole here) e es h) (All-weaker (Whole here) (Fit here) (λ x w. w.fits) es (All-tail (Whole here) e es h))
    (subst (λ n. n ≤ 64) (widths-cons e es) l))

-- one element, so many times
record Repeats (here : Site) (n : ℕ) (e : bodies.Expr) : Type 0 where
  whole : Whole here e
  long : width e ≡ n

repeats : (here : Site) (n : ℕ) (e : bodies.Expr) → One here e → IsWidth n → Repeats here n (repeated n e)
repeats here n e h w = by (n == 1) (λ t. eqb-true n 1 t)
  where
    by : (t : Bool) → (t ≡ true → n ≡ 1) → Repeats here n (cond t e (bodies.filled n e))
    by true same =
        let long : width e ≡ n = h.width ∙ sym (same refl) in
        record { whole = record { fits = h.fits; width = subst IsWidth (sym long) w }; long = long }
    by false same = record { whole = record { fits = (w, h.fits, h.width); width = w }; long = refl }

-- ---- neighbours

-- how many neighbours some runs have
abbrev pub counts : List (ℕ × ℕ) → ℕ
counts [] = 0
counts (r ∷ rs) = r.1 + counts rs

abbrev pub Some-run : ℕ × ℕ → Type 0
Some-run r = 1 ≤ r.1

pub record Runs (n : ℕ) (rs : List (ℕ × ℕ)) : Type 0 where
  pub count : counts rs ≡ n
  pub some : All Some-run rs

run-more : (k n : ℕ) (rs : List (ℕ × ℕ)) → Runs n rs → Runs (suc n) (run_before k rs)
run-more k n [] h = record { count = let c = h.count in omega (arith, c); some = All-cons Some-run (k, 1) [] (omega arith) (All-nil Some-run) }
run-more k n ((j, m) ∷ rest) h = by (k == j)
  where
    by : (t : Bool) → Runs (suc n) (cond t ((j, suc m) ∷ rest) ((k, 1) ∷ ((j, m) ∷ rest)))
    by true = record {
      count = let c : m + counts rest ≡ n = h.count in omega (arith, c);
      some = All-cons Some-run (j, suc m) rest (omega arith) (All-tail Some-run (j, m) rest h.some);
    }
    by false = record {
      count = let c : m + counts rest ≡ n = h.count in omega (arith, c);
      some = All-cons Some-run (k, 1) ((j, m) ∷ rest) (omega arith) h.some;
    }

pub all-runs : (ks : List ℕ) → Runs (length ks) (runs ks)
all-runs [] = record { count = refl; some = All-nil Some-run }
all-runs (k ∷ ks) = run-more k (length ks) (runs ks) (all-runs ks)

pub each-length : {A B : Type 0} (f : A → Elab B) (xs : List A) (ys : List B) → each f xs ≡ Ok ys → length ys ≡ length xs
each-length {A} {B} f [] ys h = ap length (sym (ok [] ys h))
each-length {A} {B} f (x ∷ xs) ys h =
    let y = bound (f x) _ ys h in
    let zs = bound (each f xs) _ ys y.then_gave in
    ap length (sym (ok (y.x ∷ zs.x) ys zs.then_gave)) ∙ ap suc (each-length f xs zs.x zs.gave)

-- ---- expanded elements

abbrev pub PlacedFits : Site → Placed → Type 0
PlacedFits here (next e) = Whole here e
PlacedFits here (chosen is e) = One here e
PlacedFits here (others e) = One here e

module _ (here : Site) where
  listed-whole : (xs : List Placed) → All (PlacedFits here) xs → All (Whole here) (listed xs)
  listed-whole [] h = All-nil (Whole here)
  listed-whole (next e ∷ xs) h =
      All-cons (Whole here) e (listed xs) (All-head (PlacedFits here) (next e) xs h) (listed-whole xs (All-tail (PlacedFits here) (next e) xs h))
  listed-whole (chosen is e ∷ xs) h = All-nil (Whole here)
  listed-whole (others e ∷ xs) h = All-nil (Whole here)

  left-one : (xs : List Placed) (e : bodies.Expr) → All (PlacedFits here) xs → left_over xs ≡ Some e → One here e
  left-one [] e h k = absurd cc
  left-one (others d ∷ xs) e h k = subst (One here) (same_Some d e k) (All-head (PlacedFits here) (others d) xs h)
  left-one (next d ∷ xs) e h k = left-one xs e (All-tail (PlacedFits here) (next d) xs h) k
  left-one (chosen is d ∷ xs) e h k = left-one xs e (All-tail (PlacedFits here) (chosen is d) xs h) k

  -- the values of an aggregate, 64 elements together at most
  record Values (es : List bodies.Expr) : Type 0 where
    whole : All (Whole here) es
    few : widths es ≤ 64

  -- ---- listed elements

  filled-none : (at needed : ℕ) (es rs : List bodies.Expr) → All (Whole here) es → needed ≤ 64 → filled_up at needed es None ≡ Ok rs → Values rs
  filled-none at needed es rs h l k = by (widths es == needed) (λ t. eqb-true (widths es) needed t) k
    where
      by : (t : Bool) → (t ≡ true → widths es ≡ needed) → cond t (given es) (refused (problem.Length (widths es) needed) at) ≡ Ok rs → Values rs
      by true same k = subst Values (ok es rs k) (record { whole = h; few = let e = same refl in omega (arith, e, l) })
      by false same k = absurd cc

  filled-some : (at needed : ℕ) (es : List bodies.Expr) (e : bodies.Expr) (rs : List bodies.Expr) → All (Whole here) es → One here e → needed ≤ 64
      → filled_up at needed es (Some e) ≡ Ok rs → Values rs
  filled-some at needed es e rs h one l k =
      by (widths es == needed) (λ t. eqb-true (widths es) needed t) (λ t. eqb-false (widths es) needed t) k
    where
      by : (t : Bool) → (t ≡ true → widths es ≡ needed) → (t ≡ false → widths es ≢ needed)
          → cond t (given es) (unless (problem.Length (widths es) needed) at (nat_le (widths es) needed) >> given (es ++ repeated (needed - widths es) e ∷ [])) ≡ Ok rs → Values rs
      by true same other k = subst Values (ok es rs k) (record { whole = h; few = let e = same refl in omega (arith, e, l) })
      by false same other k =
          let fits = bound (unless (problem.Length (widths es) needed) at (nat_le (widths es) needed)) _ rs k in
          let le : widths es ≤ needed = leb-true (widths es) needed (kept (problem.Length (widths es) needed) at (nat_le (widths es) needed) fits.x fits.gave) in
          let ne : widths es ≢ needed = other refl in
          let n : ℕ = needed - widths es in
          let r = repeats here n e one (omega (arith, le, ne), omega (arith, l)) in
          let long = r.long in
          let all = widths-push es (repeated n e) in
          subst Values (ok (es ++ repeated n e ∷ []) rs fits.then_gave) (record {
            whole = All-append (Whole here) es (repeated n e ∷ []) h (All-cons (Whole here) (repeated n e) [] r.whole (All-nil (Whole here)));
            few = omega (arith, all, long, le, l);
          })

  filled : (at needed : ℕ) (es : List bodies.Expr) (rest : Option bodies.Expr) (rs : List bodies.Expr) → All (Whole here) es → ((e : bodies.Expr) → rest ≡ Some e → One here e) → needed ≤ 64
      → filled_up at needed es rest ≡ Ok rs → Values rs
  filled at needed es None rs h one l k = filled-none at needed es rs h l k
  filled at needed es (Some e) rs h one l k = filled-some at needed es e rs h (one e refl) l k

  listed-values : (at : ℕ) (all : Option (List ℤ)) (xs : List Placed) (rs : List bodies.Expr) → Few all → All (PlacedFits here) xs → listed_values at all xs ≡ Ok rs → Values rs
  listed-values at (Some is) xs rs few h k =
      filled at (length is) (listed xs) (left_over xs) rs (listed-whole xs h) (λ e g. left-one xs e h g) (few is refl) k
  listed-values at None xs rs few h k =
      let fits = bound (unless problem.TooWide at (nat_le (widths (listed xs)) 64)) _ rs k in
      subst Values (ok (listed xs) rs fits.then_gave) (record {
        whole = listed-whole xs h;
        few = leb-true (widths (listed xs)) 64 (kept problem.TooWide at (nat_le (widths (listed xs)) 64) fits.x fits.gave);
      })

  -- ---- chosen elements

  value-one : (xs : List Placed) (k : ℕ) (e : bodies.Expr) → All (PlacedFits here) xs → value_of xs k ≡ Some e → One here e
  value-one [] k e h g = absurd cc
  value-one (x ∷ xs) k e h g = by x (All-head (PlacedFits here) x xs h) (k == 0) (λ q. value-one xs (k - 1) e (All-tail (PlacedFits here) x xs h) q) g
    where
      by : (y : Placed) → PlacedFits here y → (t : Bool) → (value_of xs (k - 1) ≡ Some e → One here e) → cond t (value_of (y ∷ []) 0) (value_of xs (k - 1)) ≡ Some e → One here e
      by y f false behind q = behind q
      by (next d) f true behind q = absurd cc
      by (chosen is d) f true behind q = subst (One here) (same_Some d e q) f
      by (others d) f true behind q = subst (One here) (same_Some d e q) f

  record RunValues (n : ℕ) (es : List bodies.Expr) : Type 0 where
    whole : All (Whole here) es
    long : widths es ≡ n

  run-values : (at : ℕ) (xs : List Placed) (rs : List (ℕ × ℕ)) (es : List bodies.Expr) → All (PlacedFits here) xs → All Some-run rs → counts rs ≤ 64 → each (run_value at xs) rs ≡ Ok es
      → RunValues (counts rs) es
  run-values at xs [] es h some l k = subst (RunValues 0) (ok [] es k) (record { whole = All-nil (Whole here); long = refl })
  run-values at xs (r ∷ rs) es h some l k =
      let y = bound (run_value at xs r) _ es k in
      let zs = bound (each (run_value at xs) rs) _ es y.then_gave in
      let e = bound (item_or problem.Index at (value_of xs r.0)) _ y.x y.gave in
      let one = value-one xs r.0 e.x h (was_found problem.Index at (value_of xs r.0) e.x e.gave) in
      let n : ℕ = r.1 in
      let low : 1 ≤ n = All-head Some-run r rs some in
      let high : n ≤ 64 = omega (arith, l) in
      let rest-few : counts rs ≤ 64 = omega (arith, l) in
      let first = repeats here n e.x one (low, high) in
      let more = run-values at xs rs zs.x h (All-tail Some-run r rs some) rest-few zs.gave in
      let same : repeated n e.x ≡ y.x = ok (repeated n e.x) y.x e.then_gave in
      let long = first.long in
      let longer = more.long in
      let all = widths-cons (repeated n e.x) zs.x in
      subst (RunValues (counts (r ∷ rs))) (ok (y.x ∷ zs.x) es zs.then_gave)
      (subst (λ (d : bodies.Expr). RunValues (n + counts rs) (d ∷ zs.x)) same
      (record { whole = All-cons (Whole here) (repeated n e.x) zs.x first.whole more.whole; long = omega (arith, all, long, longer) }))

  values-at : (at : ℕ) (is : List ℤ) (xs : List Placed) (es : List bodies.Expr) → length is ≤ 64 → All (PlacedFits here) xs → values_at at is xs ≡ Ok es → Values es
  values-at at is xs es l h k =
      let ks = bound (elements_for at is xs) _ es k in
      let rs = all-runs ks.x in
      let len = each-length (λ i. item_or (problem.Length (length (placed_indexes xs)) (length is)) at (element_for 0 xs i)) is ks.x ks.gave in
      let count = rs.count in
      let few : counts (runs ks.x) ≤ 64 = omega (arith, count, len, l) in
      let vs = run-values at xs (runs ks.x) es h rs.some few ks.then_gave in
      let long = vs.long in
      record { whole = vs.whole; few = omega (arith, long, few) }

  own-few : (at : ℕ) (is js : List ℤ) → own_indexes at is ≡ Ok js → length js ≤ 64
  own-few at [] js h = absurd cc
  own-few at (i ∷ is) js h = few-indexes at (record { left = least_of i is; direction = To; right = greatest_of i is }) js h

  chosen-values : (at : ℕ) (all : Option (List ℤ)) (xs : List Placed) (es : List bodies.Expr) → Few all → All (PlacedFits here) xs → chosen_values at all xs ≡ Ok es → Values es
  chosen-values at (Some is) xs es few h k = values-at at is xs es (few is refl) h k
  chosen-values at None xs es few h k =
      let is = bound (own_indexes at (placed_indexes xs)) _ es k in
      values-at at is.x xs es (own-few at (placed_indexes xs) is.x is.gave) h is.then_gave

  -- ---- the whole

  pub composed_whole : (at : ℕ) (all : Option (List ℤ)) (xs : List Placed) (e : bodies.Expr) → Few all → All (PlacedFits here) xs → composed at all xs ≡ Ok e → Whole here e
  composed_whole at all xs e few h k = by (are_listed xs) k
    where
      joined : (es : List bodies.Expr) → Values es → joined_all at es ≡ Ok e → Whole here e
      joined es v g = all-joined here at es e v.whole v.few g

      by : (t : Bool) → (cond t (listed_values at all xs) (chosen_values at all xs) >>= λ es. joined_all at es) ≡ Ok e → Whole here e
      by true g = let es = bound (listed_values at all xs) _ e g in joined es.x (listed-values at all xs es.x few h es.gave) es.then_gave
      by false g = let es = bound (chosen_values at all xs) _ e g in joined es.x (chosen-values at all xs es.x few h es.gave) es.then_gave
