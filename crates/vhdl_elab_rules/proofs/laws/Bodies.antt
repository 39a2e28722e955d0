-- Connected bodies fit the flat netlist, by induction over bodies.
use Rattle.std.proofs.Common.{◌≡◌, ℕ, zero, suc, ◌+◌, ◌<◌, ◌≤◌, Bool, true, false, cond, ◌==◌, List, [], ◌∷◌, length, map, Some, All, refl, sym, ap, ◌∙◌, subst, arith}
use Rattle.std.specs.Prelude.{slice_get, slice_index, slice_index_or, Contains}
use Rattle.std.specs.List.{range_with_len}
use Rattle.std.proofs.lemmas.Bool.{eqb-true, eq-eqb}
use Rattle.std.proofs.lemmas.Option.{same_Some, slice_get_within, get_or_from_slice_get}
use Rattle.std.proofs.lemmas.List.{length-map}
use Rattle.std.proofs.lemmas.List.Elements.{All-cons, All-nil, All-head, All-tail, All-map, All-weaker}
use Rattle.std.proofs.lemmas.List.FromFn.{length-range_with_len, get_or-range_with_len}
use Rattle.vhdl_values.specs.Shifts.{counted_length}
use Rattle.rtl_model.specs.bodies.Types.{ElementType, nine_valued, enumeration, HasType}
use Rattle.rtl_model.specs.bodies.Body as bodies
use Rattle.rtl_model.specs.bodies.Body.{Stmts}
use Rattle.rtl_model.specs.bodies.Fits.{operated_width, width, value_width, IsWidth, FitsOperands, Scope, HoldsRows, FitsExpr, FitsAs, FitsTest, DrivesType, FitsStmt, Fits, FitsBranches, FitsAlternatives}
use Rattle.vhdl_expand_rules.specs.Site.{elements_count}
use Rattle.vhdl_expand_rules.specs.Tree.{Object, Variable}
use Rattle.vhdl_expand_rules.specs.laws.Trees.{object_kinds, StmtAssigns, Assigns, BranchesAssign, AlternativesAssign, body_scope}
use Rattle.vhdl_elab_rules.specs.Bodies.{place_in, net_of, connected_expr, connected_value, connected_test, connected_stmt, connected_body, connected_branches, connected_alternatives}
use Rattle.vhdl_elab_rules.specs.laws.Bodies.{AreNetsOf, connected_scope, EachBodyIsConnected}

-- ---- the place of a driver

get-map : (f : ℕ → ℕ) (es : List ℕ) (k e : ℕ) → slice_get es k ≡ Some e → slice_get (map f es) k ≡ Some (f e)
get-map f [] k e h = absurd cc
get-map f (d ∷ es) zero e h = ap (λ x. Some (f x)) (same_Some d e h)
get-map f (d ∷ es) (suc k) e h = get-map f es k e h

place-has : (drives : List ℕ) (k e : ℕ) → k < length drives → slice_index_or drives k e ≡ e → slice_get drives (place_in drives e) ≡ Some e
place-has [] k e l h = absurd (omega (arith, l))
place-has (d ∷ drives) zero e l h = ap (λ (t : Bool). slice_get (d ∷ drives) (cond t 0 (suc (place_in drives e)))) (eq-eqb d e h) ∙ ap Some h
place-has (d ∷ drives) (suc k) e l h = by (d == e) refl (place-has drives k e (omega (arith, l)) h)
  where
    by : (t : Bool) → (d == e) ≡ t → slice_get drives (place_in drives e) ≡ Some e → slice_get (d ∷ drives) (cond t 0 (suc (place_in drives e))) ≡ Some e
    by true s go = ap Some (eqb-true d e s)
    by false s go = go

module _ (types : List ElementType) (os : List Object) (vs : List Variable) (nets drives : List ℕ) (typed : AreNetsOf types os nets) where
  abbrev here : Scope
  here = body_scope os vs

  abbrev there : Scope
  there = connected_scope types os vs nets drives

  -- ---- expressions

  width-expr : (e : bodies.Expr) → width (connected_expr nets drives e) ≡ width e
  width-expr (bodies.signal es) = length-map es (net_of nets drives)
  width-expr (bodies.inverse e) = width-expr e
  width-expr (bodies.binary op d e) = ap (λ n. operated_width op n (width (connected_expr nets drives e))) (width-expr d) ∙ ap (operated_width op (width d)) (width-expr e)
  width-expr (bodies.counted op count e) = ap (counted_length op count) (width-expr e)
  width-expr (bodies.shifted by count e) = width-expr e
  width-expr (bodies.converted by e) = width-expr e
  width-expr _ = refl

  nets-typed : (t : ElementType) (es : List ℕ) → All (HasType here.nets t) es → All (HasType types t) (map (net_of nets drives) es)
  nets-typed t es h = All-map (HasType types t) (net_of nets drives) es (All-weaker (HasType here.nets t) (λ e. HasType types t (net_of nets drives e)) (λ e k. typed e t k) es h)

  operands : (op : bodies.Operator) (m n m' n' : ℕ) → m' ≡ m → n' ≡ n → FitsOperands op m n → FitsOperands op m' n'
  operands op m n m' n' p q h = subst (λ x. FitsOperands op x n') (sym p) (subst (FitsOperands op m) (sym q) h)

  rows-hold : (rows : bodies.Expr) → HoldsRows here rows → HoldsRows there (connected_expr nets drives rows)
  rows-hold (bodies.signal es) h = nets-typed nine_valued es h
  rows-hold (bodies.variable es) h = h
  rows-hold (bodies.constant values) h = h
  rows-hold _ h = elim h [ ]

  expr-fits : (e : bodies.Expr) → FitsExpr here e → FitsExpr there (connected_expr nets drives e)
  expr-fits (bodies.signal es) h = (subst IsWidth (sym (length-map es (net_of nets drives))) h.0, nets-typed nine_valued es h.1)
  expr-fits (bodies.inverse e) h = expr-fits e h
  expr-fits (bodies.filled len e) h = (h.0, expr-fits e h.1, width-expr e ∙ h.2)
  expr-fits (bodies.binary op d e) h = (
    subst IsWidth (sym (width-expr (bodies.binary op d e))) h.0,
    expr-fits d h.1,
    expr-fits e h.2,
    operands op (width d) (width e) (width (connected_expr nets drives d)) (width (connected_expr nets drives e)) (width-expr d) (width-expr e) h.3,
  )
  expr-fits (bodies.counted op count e) h = (h.0, expr-fits e h.1)
  expr-fits (bodies.shifted by count e) h = (expr-fits count h.0, expr-fits e h.1)
  expr-fits (bodies.converted by e) h = expr-fits e h
  expr-fits (bodies.chosen index spacing rows) h = (h.0, expr-fits index h.1, rows-hold rows h.2, subst (λ n. spacing.len ≤ n) (sym (width-expr rows)) h.3)
  expr-fits _ h = h

  width-value : (v : bodies.Value) → value_width (connected_value nets drives v) ≡ value_width v
  width-value (bodies.elements e) = width-expr e
  width-value _ = refl

  value-fits : (t : ElementType) (v : bodies.Value) → FitsAs here t v → FitsAs there t (connected_value nets drives v)
  value-fits nine_valued (bodies.elements e) h = expr-fits e h
  value-fits (enumeration n) (bodies.position p) h = h
  value-fits (enumeration n) (bodies.position_of e) h = typed e (enumeration n) h
  value-fits (enumeration n) (bodies.position_in e) h = h
  value-fits _ _ h = elim h [ ]

  test-fits : (t : bodies.Test) → FitsTest here t → FitsTest there (connected_test nets drives t)
  test-fits (bodies.condition e) h = (expr-fits e h.0, width-expr e ∙ h.1)
  test-fits (bodies.decided x) h = tt
  test-fits (bodies.equal v w) h = (h.0, value-fits h.0 v h.1, value-fits h.0 w h.2)
  test-fits (bodies.unequal v w) h = (h.0, value-fits h.0 v h.1, value-fits h.0 w h.2)
  test-fits (bodies.level plain e x) h = typed e nine_valued h
  test-fits (bodies.compared op d e) h = (expr-fits d h.0, expr-fits e h.1)
  test-fits (bodies.compared_to op e n) h = expr-fits e h
  test-fits (bodies.rising e) h = typed e nine_valued h
  test-fits (bodies.falling e) h = typed e nine_valued h
  test-fits (bodies.event e) h = typed e nine_valued h
  test-fits (bodies.negated t) h = test-fits t h
  test-fits (bodies.combined op s t) h = (test-fits s h.0, test-fits t h.1)

  -- ---- statements

  -- the element is there, and so is the place of its driver
  target-fits : (t : ElementType) (e : ℕ) → DrivesType here t e → Contains drives e → DrivesType there t (place_in drives e)
  target-fits t e h c =
      let run : List ℕ = range_with_len 0 (elements_count (object_kinds os)) in
      let l : e < elements_count (object_kinds os) = subst (λ n. e < n) (length-range_with_len 0 (elements_count (object_kinds os))) (slice_get_within run e h.0 h.1) in
      let same : h.0 ≡ e = sym (get_or_from_slice_get run e h.0 0 h.1) ∙ get_or-range_with_len 0 (elements_count (object_kinds os)) e 0 l ∙ (let z : 0 + e ≡ e = omega arith in z) in
      (slice_index nets e, get-map (slice_index nets) drives (place_in drives e) e (place-has drives c.0 e c.1 c.2), typed e t (subst (HasType here.nets t) same h.2))

  targets-fit : (t : ElementType) (es : List ℕ) → All (DrivesType here t) es → All (Contains drives) es → All (DrivesType there t) (map (place_in drives) es)
  targets-fit t [] h c = All-nil (DrivesType there t)
  targets-fit t (e ∷ es) h c =
      All-cons (DrivesType there t) (place_in drives e) (map (place_in drives) es) (target-fits t e (All-head (DrivesType here t) e es h) (All-head (Contains drives) e es c))
      (targets-fit t es (All-tail (DrivesType here t) e es h) (All-tail (Contains drives) e es c))

  mutual
    stmt-fits : (s : bodies.Stmt) → FitsStmt here s → StmtAssigns (Contains drives) s → FitsStmt there (connected_stmt nets drives s)
    stmt-fits bodies.null_of h c = tt
    stmt-fits (bodies.assign es v) h c = (h.0, value-fits h.0 v h.1, length-map es (place_in drives) ∙ h.2 ∙ sym (width-value v), targets-fit h.0 es h.3 c)
    stmt-fits (bodies.set es v) h c = (h.0, value-fits h.0 v h.1, h.2 ∙ sym (width-value v), h.3)
    stmt-fits (bodies.assign_at index spacing es e) h c = (
      h.0,
      expr-fits index h.1,
      expr-fits e h.2,
      h.3 ∙ sym (width-expr e),
      targets-fit nine_valued es h.4 c,
      subst (λ n. spacing.len ≤ n) (sym (length-map es (place_in drives))) h.5,
    )
    stmt-fits (bodies.set_at index spacing es e) h c = (h.0, expr-fits index h.1, expr-fits e h.2, h.3 ∙ sym (width-expr e), h.4, h.5)
    stmt-fits (bodies.if_of bs) h c = branches-fit bs h c
    stmt-fits (bodies.case_of v alts) h c =
        (h.0, value-fits h.0 v h.1, subst (λ n. FitsAlternatives there h.0 n (connected_alternatives nets drives alts)) (sym (width-value v)) (alternatives-fit alts h.0 (value_width v) h.2 c))

    body-fits : (s : Stmts) → Fits here s → Assigns (Contains drives) s → Fits there (connected_body nets drives s)
    body-fits bodies.done h c = tt
    body-fits (bodies.step s rest) h c = (stmt-fits s h.0 c.0, body-fits rest h.1 c.1)

    branches-fit : (bs : bodies.Branches) → FitsBranches here bs → BranchesAssign (Contains drives) bs → FitsBranches there (connected_branches nets drives bs)
    branches-fit bodies.no_else h c = tt
    branches-fit (bodies.otherwise s) h c = body-fits s h c
    branches-fit (bodies.branch t s bs) h c = (test-fits t h.0, body-fits s h.1 c.0, branches-fit bs h.2 c.1)

    alternatives-fit : (alts : bodies.Alternatives) (t : ElementType) (len : ℕ) → FitsAlternatives here t len alts → AlternativesAssign (Contains drives) alts → FitsAlternatives there t len (connected_alternatives nets drives alts)
    alternatives-fit (bodies.others s) t len h c = body-fits s h c
    alternatives-fit (bodies.alternative choices s alts) t len h c = (h.0, body-fits s h.1 c.0, alternatives-fit alts t len h.2 c.1)

pub each-body-is-connected : EachBodyIsConnected
each-body-is-connected types os vs nets drives body typed h c = body-fits types os vs nets drives typed body h c
