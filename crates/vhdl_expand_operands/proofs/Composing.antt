-- The values of an aggregate: which element a value is of, and how long the values are together.
use Rattle.std.proofs.Common.{◌≡◌, ℕ, zero, suc, ◌+◌, ◌-◌, ◌<◌, ◌≤◌, Bool, true, false, cond, ◌==◌, List, [], ◌∷◌, length, get_or, map, Option, Some, None, Ok, All, refl, sym, ap, ◌∙◌, arith}
use Rattle.std.specs.Borrow.{Bor}
use Rattle.std.specs.Prelude.{ℤ, slice_get, option_map}
use Rattle.std.specs.Slice.{IsItemAt}
use Rattle.std.proofs.lemmas.Bool.{eqb-true, ne_eqb}
use Rattle.std.proofs.lemmas.Option.{same_Some, slice_get-map, slice_get-get_or}
use Rattle.std.proofs.lemmas.List.Elements.{All-cons, All-nil, All-head, All-tail}
use Rattle.std.proofs.lemmas.List.{length-map}
use Rattle.rtl_model.specs.bodies.Body as bodies
use Rattle.rtl_model.specs.bodies.Fits.{IsWidth, width}
use Rattle.vhdl_expand_rules.specs.declared.fault.ElabProblem.TheVariants as problem
use Rattle.vhdl_expand_rules.specs.Elab.{item_or, each}
use Rattle.vhdl_expand_rules.specs.Aggregates.{Placed, next, chosen, others, repeated, widths, value_of, placed_indexes, element_for, elements_for, runs, run_value}
use Rattle.vhdl_expand_rules.proofs.Items.{all_get}
use Rattle.vhdl_expand_rules.proofs.Steps.{ok, bound}
use Rattle.vhdl_expand_rules.proofs.laws.Names.{was_found}
use Rattle.vhdl_expand_rules.proofs.laws.Aggregates.{counts, Some-run, all-runs, each-length, widths-cons}
use Rattle.vhdl_expand_operands.specs.declared.placed.Neighbours.{Neighbours}
use Rattle.vhdl_expand_operands.specs.declared.placed.Placed as code
use Rattle.vhdl_expand_operands.specs.declared.placed.Placed.TheVariants as p
use Rattle.vhdl_expand_operands.specs.Operands.{operand_view}
use Rattle.vhdl_expand_operands.specs.Placings.{placed_view, run_view}
use Rattle.vhdl_expand_operands.proofs.Several.{there}

-- ---- the value of an element by its number

abbrev pub value_in : Placed → Option bodies.Expr
value_in (next e) = None
value_in (chosen is e) = Some e
value_in (others e) = Some e

first-value : (x : Placed) (xs : List Placed) → value_of (x ∷ xs) 0 ≡ value_in x
first-value (next e) xs = refl
first-value (chosen is e) xs = refl
first-value (others e) xs = refl

no-zero : (k : ℕ) → (suc k == 0) ≡ false
no-zero k = ne_eqb (suc k) 0 (λ e. absurd (omega (arith, e)))

later-value : (x : Placed) (xs : List Placed) (k : ℕ) → value_of (x ∷ xs) (suc k) ≡ value_of xs k
later-value x xs k =
    ap (λ t. cond t (value_of (x ∷ []) 0) (value_of xs (suc k - 1))) (no-zero k) ∙ ap (value_of xs) (let e : suc k - 1 ≡ k = omega arith in e)

pub value_at : (xs : List Placed) (k : ℕ) (x : Placed) → slice_get xs k ≡ Some x → value_of xs k ≡ value_in x
value_at [] k x h = absurd cc
value_at (y ∷ ys) zero x h = first-value y ys ∙ ap value_in (same_Some y x h)
value_at (y ∷ ys) (suc k) x h = later-value y ys k ∙ value_at ys k x h

pub no_value : (xs : List Placed) (k : ℕ) → length xs ≤ k → value_of xs k ≡ None
no_value [] k h = refl
no_value (y ∷ ys) zero h = absurd (omega arith)
no_value (y ∷ ys) (suc k) h = later-value y ys k ∙ no_value ys k (omega arith)

-- ---- lengths

pub repeated_width : (n : ℕ) (e : bodies.Expr) → width e ≡ 1 → width (repeated n e) ≡ n
repeated_width n e h = by (n == 1) (λ t. eqb-true n 1 t)
  where
    by : (t : Bool) → (t ≡ true → n ≡ 1) → width (cond t e (bodies.filled n e)) ≡ n
    by true same = h ∙ sym (same refl)
    by false same = refl

-- each value is of one element
abbrev pub AreSingle : List Placed → Type 0
AreSingle xs = (k : ℕ) (e : bodies.Expr) → value_of xs k ≡ Some e → width e ≡ 1

pub run_widths : (at : ℕ) (xs : List Placed) (rs : List (ℕ × ℕ)) (es : List bodies.Expr) → AreSingle xs → each (run_value at xs) rs ≡ Ok es → widths es ≡ counts rs
run_widths at xs [] es single h = ap widths (sym (ok [] es h))
run_widths at xs (r ∷ rs) es single h =
    let y = bound (run_value at xs r) _ es h in
    let zs = bound (each (run_value at xs) rs) _ es y.then_gave in
    let e = bound (item_or problem.Index at (value_of xs r.0)) _ y.x y.gave in
    let one = single r.0 e.x (was_found problem.Index at (value_of xs r.0) e.x e.gave) in
    let long = repeated_width r.1 e.x one in
    let more = run_widths at xs rs zs.x single zs.gave in
    let all = widths-cons (repeated r.1 e.x) zs.x in
    let whole : widths (repeated r.1 e.x ∷ zs.x) ≡ r.1 + counts rs = omega (arith, all, long, more) in
    ap widths (sym (ap (λ d. d ∷ zs.x) (ok (repeated r.1 e.x) y.x e.then_gave) ∙ ok (y.x ∷ zs.x) es zs.then_gave)) ∙ whole

-- neighbours among 64 numbers at most
abbrev Short : ℕ × ℕ → Type 0
Short r = IsWidth r.1

all-short : (rs : List (ℕ × ℕ)) → All Some-run rs → counts rs ≤ 64 → All Short rs
all-short [] some few = All-nil Short
all-short (r ∷ rs) some few =
    let one : 1 ≤ r.1 = All-head Some-run r rs some in
    let high : r.1 ≤ 64 = omega (arith, few) in
    All-cons Short r rs (one, high) (all-short rs (All-tail Some-run r rs some) (omega (arith, few)))

pub short_runs : (ks : List ℕ) → length ks ≤ 64 → All (λ (r : ℕ × ℕ). IsWidth r.1) (runs ks)
short_runs ks few =
    let rs = all-runs ks in
    let count = rs.count in
    all-short (runs ks) rs.some (omega (arith, count, few))

-- together they are as many as there are numbers
pub values_few : (at : ℕ) (xs : List Placed) (ks : List ℕ) (es : List bodies.Expr) → AreSingle xs → each (run_value at xs) (runs ks) ≡ Ok es → widths es ≡ length ks
values_few at xs ks es single h = let rs = all-runs ks in run_widths at xs (runs ks) es single h ∙ rs.count

-- ---- elements of the code

single-value : (p : code.Placed) (e : bodies.Expr) → value_in (placed_view p) ≡ Some e → width e ≡ 1
single-value (p.Next o) e h = absurd cc
single-value (p.Chosen is x) e h = ap width (sym (same_Some (operand_view x.operand) e h)) ∙ x.operand.counted ∙ x.single
single-value (p.Others x) e h = ap width (sym (same_Some (operand_view x.operand) e h)) ∙ x.operand.counted ∙ x.single

pub are_single : (ps : List code.Placed) → AreSingle (map placed_view ps)
are_single [] k e h = absurd cc
are_single (x ∷ xs) zero e h = single-value x e (sym (first-value (placed_view x) (map placed_view xs)) ∙ h)
are_single (x ∷ xs) (suc k) e h = are_single xs k e (sym (later-value (placed_view x) (map placed_view xs) k) ∙ h)

-- what is lent of them, as contracts see it
abbrev pub seen_value : Option (Bor code.Placed) → Option bodies.Expr
seen_value None = None
seen_value (Some b) = value_in (placed_view b.now)

pub value_seen : (ps : List code.Placed) (k : ℕ) (r : Option (Bor code.Placed)) → IsItemAt ps k r → value_of (map placed_view ps) k ≡ seen_value r
value_seen ps k None h = let past = h.3 in let long = length-map ps placed_view in no_value (map placed_view ps) k (omega (arith, past, long))
value_seen ps k (Some b) h =
    value_at (map placed_view ps) k (placed_view b.now) (slice_get-map placed_view ps k ∙ ap (option_map placed_view) (there ps k b.now h.3.0 (h.3.1 b.now)))

-- ---- the runs of the code

-- as many numbers as indexes
pub numbers_few : (at : ℕ) (is js : List ℤ) (xs : List Placed) (ks ls : List ℕ) → is ≡ js → elements_for at is xs ≡ Ok ks → ls ≡ ks → length js ≤ 64 → length ls ≤ 64
numbers_few at is js xs ks ls same found there few =
    let long = each-length (λ i. item_or (problem.Length (length (placed_indexes xs)) (length is)) at (element_for 0 xs i)) is ks found in
    omega (arith, long, few, ap length same, ap length there)

module _ (ks : List ℕ) (rs : List Neighbours) (same : map run_view rs ≡ runs ks) (few : length ks ≤ 64) where
  pub run_short : (i : ℕ) (d : Neighbours) → i < length rs → IsWidth (get_or rs i d).count
  run_short i d below =
      all_get (λ (x : ℕ × ℕ). IsWidth x.1) (runs ks) i (run_view (get_or rs i d)) (short_runs ks few)
      (ap (λ xs. slice_get xs i) (sym same) ∙ slice_get-map run_view rs i ∙ ap (option_map run_view) (slice_get-get_or rs i d below))

  pub runs_few : (at : ℕ) (ps : List code.Placed) (es : List bodies.Expr) (len : ℕ) → each (run_value at (map placed_view ps)) (map run_view rs) ≡ Ok es → widths es ≡ len → len ≤ 64
  runs_few at ps es len h long =
      let all = values_few at (map placed_view ps) ks es (are_single ps) (ap (each (run_value at (map placed_view ps))) (sym same) ∙ h) in
      omega (arith, all, long, few)
