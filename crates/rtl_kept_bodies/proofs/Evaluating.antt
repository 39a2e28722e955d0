-- The constants in a reset's branch, one statement at a time.
use Rattle.std.proofs.Common.{◌≡◌, ℕ, ◌+◌, ◌<◌, ◌≤◌, List, [], ◌∷◌, ◌++◌, length, get_or, take, drop, refl, sym, ap, ◌∙◌, subst, arith, All}
use Rattle.std.proofs.Math.ListN.{set}
use Rattle.std.proofs.lemmas.List.{at_drop_more, at_drop_all, length-map, take_more_set, take_all, drop-set-lt}
use Rattle.std.proofs.lemmas.List.Elements.{All-weaker}
use Rattle.std.proofs.lemmas.Option.{slice_get_within}
use Rattle.vhdl_values.specs.Scalar.{code_of}
use Rattle.rtl_model.specs.bodies.Body.{set as set_of, Stmts, done, step, followed_by, Expr, signal, variable, constant, inverse, filled, binary, counted, shifted, converted, chosen, Value, elements, position_in}
use Rattle.rtl_model.specs.bodies.Fits.{HoldsRows, Scope, FitsExpr, FitsAs, value_width}
use Rattle.rtl_model.specs.bodies.Reads.{expr_reads}
use Rattle.rtl_model.specs.bodies.Types.{ElementType, nine_valued, enumeration, HasType}
use Rattle.rtl_model.specs.bodies.Values.{Seen, value_of}
use Rattle.rtl_model.specs.bodies.Variables.{values_put, stmt_variables}
use Rattle.rtl_model.proofs.basics.Lists.{nil_parts}
use Rattle.rtl_net.specs.declared.body.Statement.{Statement}
use Rattle.rtl_net.specs.Bodies.{statement_view, statements_of}
use Rattle.rtl_eval.specs.declared.evaluated.Evaluated.{Evaluated}
use Rattle.rtl_eval.specs.declared.evaluated.Evaluated.TheVariants as e
use Rattle.rtl_eval.specs.Evaluations.{codes_of}
use Rattle.rtl_eval.specs.Seeing.{Within}
use Rattle.rtl_variable_registers.specs.Known.{at_start, constant_of, with_constant, with_constants}
use Rattle.rtl_variable_registers.proofs.Known.{constant_same, constant_width}
use Rattle.rtl_kept_bodies.specs.Steps.{constant_view, CanEvaluate, CanCompute}
use Rattle.rtl_kept_bodies.proofs.Knowing.{can_first, can_later, can_evaluate_set}
use Rattle.rtl_kept_bodies.proofs.Sequences.{followed_assoc, followed_done, of_append}

-- ---- one value

-- what reads no signal fits among no nets
abbrev alone : Scope → Scope
alone scope = record { nets = []; variables = scope.variables; targets = [] }

rows_alone : (scope : Scope) (rows : Expr) → expr_reads rows ≡ [] → HoldsRows scope rows → HoldsRows (alone scope) rows
rows_alone scope (signal []) n h = λ k d l. absurd (omega arith)
rows_alone scope (signal (m ∷ ms)) n h = absurd cc
rows_alone scope (variable es) n h = h
rows_alone scope (constant vs) n h = h
rows_alone scope _ n h = absurd h

expr_alone : (scope : Scope) (e : Expr) → expr_reads e ≡ [] → FitsExpr scope e → FitsExpr (alone scope) e
expr_alone scope (signal []) n h = (h.0, λ k d l. absurd (omega arith))
expr_alone scope (signal (m ∷ ms)) n h = absurd cc
expr_alone scope (variable es) n h = h
expr_alone scope (constant vs) n h = h
expr_alone scope (inverse e) n h = expr_alone scope e n h
expr_alone scope (filled len e) n h = (h.0, expr_alone scope e n h.1, h.2)
expr_alone scope (binary op d e) n h =
    let (c, k) = nil_parts (expr_reads d) (expr_reads e) n in (h.0, expr_alone scope d c h.1, expr_alone scope e k h.2, h.3)
expr_alone scope (counted op count e) n h = (h.0, expr_alone scope e n h.1)
expr_alone scope (shifted by count e) n h =
    let (c, k) = nil_parts (expr_reads count) (expr_reads e) n in (expr_alone scope count c h.0, expr_alone scope e k h.1)
expr_alone scope (converted by e) n h = expr_alone scope e n h
expr_alone scope (chosen index spacing rows) n h =
    let (c, k) = nil_parts (expr_reads index) (expr_reads rows) n in (h.0, expr_alone scope index c h.1, rows_alone scope rows k h.2, h.3)

pub expr_within : (vars : List ℕ) (x : Expr) → CanEvaluate vars (elements x) → Within (at_start vars) (λ scope. FitsExpr scope x)
expr_within vars x c = record {
  scope = alone c.scope;
  sees = record { nets_now = refl; nets_before = refl; each_element = c.as_many; now = λ n t g. absurd cc; before = λ n t g. absurd cc; variables = c.typed };
  fits = expr_alone c.scope x c.reads_none (of_nine c.type_of c.fits);
}
  where
    of_nine : (t : ElementType) → FitsAs c.scope t (elements x) → FitsExpr c.scope x
    of_nine nine_valued f = f
    of_nine (enumeration n) f = absurd f

pub element_within : (vars : List ℕ) (k : ℕ) → CanEvaluate vars (position_in k) → k < length vars
element_within vars k c = go c.type_of c.fits
  where
    go : (t : ElementType) → FitsAs c.scope t (position_in k) → k < length vars
    go nine_valued f = absurd f
    go (enumeration n) f = let l = slice_get_within c.scope.variables k (enumeration n) f in omega (arith, l, c.as_many)

-- the codes of a constant, and how many they are
codes_are : (seen : Seen) (c : Evaluated) → codes_of c ≡ value_of seen (constant_view c)
codes_are seen (e.Elements values) = refl
codes_are seen (e.Position at) = refl

codes_many : (c : Evaluated) → length (codes_of c) ≡ value_width (constant_view c)
codes_many (e.Elements values) = length-map values code_of
codes_many (e.Position at) = refl

module _ (vars es : List ℕ) (v : Value) (can : CanCompute vars (step (set_of es v) done)) (c : Evaluated) (is : constant_view c ≡ constant_of (at_start vars) v) where
  pub set_many : length es ≡ length (codes_of c)
  set_many =
      can.fits.0.2 ∙ sym (constant_width can.scope (at_start vars) can.fits.0.0 v can.fits.0.1) ∙ sym (ap value_width is) ∙ sym (codes_many c)

  pub set_there : All (λ k. k < length vars) es
  set_there = All-weaker (HasType can.scope.variables can.fits.0.0) (λ k. k < length vars) (λ k h. let l = slice_get_within can.scope.variables k can.fits.0.0 h in omega (arith, l, can.as_many)) es can.fits.0.3

  pub set_variables : values_put es (codes_of c) vars ≡ stmt_variables (at_start vars) (set_of es v)
  set_variables =
      let reads = (can_evaluate_set vars es v done can).reads_none in
      ap (λ (values : List ℕ). values_put es values vars)
      (codes_are (at_start vars) c ∙ ap (value_of (at_start vars)) is ∙ constant_same (at_start vars) (at_start vars) v reads)

-- ---- statements

pub constants_more : (vars later : List ℕ) (whole : Stmts) (now : List Statement) (i : ℕ) (x y : Statement) → i < length now → x ≡ get_or now i x
    → later ≡ stmt_variables (at_start vars) (statement_view x)
    → followed_by (statements_of (take i now)) (with_constants (at_start vars) (statements_of (drop i now))) ≡ whole
    → statement_view y ≡ with_constant (at_start vars) (statement_view x)
    → followed_by (statements_of (take (i + 1) (set now i y))) (with_constants (at_start later) (statements_of (drop (i + 1) (set now i y)))) ≡ whole
constants_more vars later whole now i x y l at after so_far h =
    let rest = with_constants (at_start later) (statements_of (drop (i + 1) now)) in
    ap (λ (xs : List Statement). followed_by (statements_of xs) (with_constants (at_start later) (statements_of (drop (i + 1) (set now i y))))) (take_more_set now i y l)
    ∙ ap (λ (xs : List Statement). followed_by (statements_of (take i now ++ y ∷ [])) (with_constants (at_start later) (statements_of xs))) (drop-set-lt (i + 1) now i y (omega arith))
    ∙ ap (λ s. followed_by s rest) (of_append (take i now) (y ∷ []))
    ∙ followed_assoc (statements_of (take i now)) (step (statement_view y) done) rest
    ∙ ap (λ v. followed_by (statements_of (take i now)) (step v rest)) h
    ∙ ap (λ (vs : List ℕ). followed_by (statements_of (take i now)) (step (with_constant (at_start vars) (statement_view x)) (with_constants (at_start vs) (statements_of (drop (i + 1) now))))) after
    ∙ sym (at_drop_more (λ (ys : List Statement). followed_by (statements_of (take i now)) (with_constants (at_start vars) (statements_of ys))) now i x l
    ∙ ap (λ (z : Statement). followed_by (statements_of (take i now)) (with_constants (at_start vars) (step (statement_view z) (statements_of (drop (i + 1) now))))) (sym at)) ∙ so_far

pub constants_done : (vars : List ℕ) (whole : Stmts) (now : List Statement) (i : ℕ) → length now ≤ i
    → followed_by (statements_of (take i now)) (with_constants (at_start vars) (statements_of (drop i now))) ≡ whole → statements_of now ≡ whole
constants_done vars whole now i past so_far =
    sym (followed_done (statements_of now)) ∙ ap (λ (xs : List Statement). followed_by (statements_of xs) done) (sym (take_all i now past))
    ∙ sym (at_drop_all (λ (ys : List Statement). followed_by (statements_of (take i now)) (with_constants (at_start vars) (statements_of ys))) now i past) ∙ so_far

module _ (vars : List ℕ) (now : List Statement) (i : ℕ) (x : Statement) (l : i < length now) (at : x ≡ get_or now i x) (can : CanCompute vars (statements_of (drop i now))) where
  here : CanCompute vars (step (statement_view x) (statements_of (drop (i + 1) now)))
  here =
      subst (λ (z : Statement). CanCompute vars (step (statement_view z) (statements_of (drop (i + 1) now)))) (sym at)
      (subst (CanCompute vars) (at_drop_more statements_of now i x l) can)

  pub can_here : CanCompute vars (step (statement_view x) done)
  can_here = can_first vars (statement_view x) (statements_of (drop (i + 1) now)) here

  pub can_next : (later : List ℕ) (y : Statement) → later ≡ stmt_variables (at_start vars) (statement_view x) → CanCompute later (statements_of (drop (i + 1) (set now i y)))
  can_next later y after =
      subst (λ (xs : List Statement). CanCompute later (statements_of xs)) (sym (drop-set-lt (i + 1) now i y (omega arith)))
      (subst (λ (vs : List ℕ). CanCompute vs (statements_of (drop (i + 1) now))) (sym after) (can_later vars (statement_view x) (statements_of (drop (i + 1) now)) here))
