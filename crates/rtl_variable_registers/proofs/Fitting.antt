-- A body that fits still fits among more nets and drivers.
use Rattle.std.proofs.Common.{◌≡◌, ℕ, slice_get, Some}
use Rattle.std.proofs.lemmas.List.Elements.{All-weaker}
use Rattle.rtl_model.specs.bodies.Body.{Expr, signal, variable, constant, inverse, filled, binary, counted, shifted, converted, chosen}
use Rattle.rtl_model.specs.bodies.Body.{Value, elements, position, position_of, position_in}
use Rattle.rtl_model.specs.bodies.Body.{Test, condition, decided, equal, unequal, level, compared, compared_to}
use Rattle.rtl_model.specs.bodies.Body.{rising, falling, event, negated, combined}
use Rattle.rtl_model.specs.bodies.Body.{Stmt, null_of, assign, set, assign_at, set_at, if_of, case_of, Stmts, done, step}
use Rattle.rtl_model.specs.bodies.Body.{Branches, no_else, otherwise, branch, Alternatives, others, alternative}
use Rattle.rtl_model.specs.bodies.Fits.{Scope, HoldsRows, FitsExpr, FitsAs, FitBoth, FitsTest, DrivesType, FitsStmt, Fits, FitsBranches, FitsAlternatives}
use Rattle.rtl_model.specs.bodies.Types.{ElementType, nine_valued, enumeration, HasType}

pub record Extends (small large : Scope) : Type 0 where
  pub nets : (t : ElementType) (n : ℕ) → HasType small.nets t n → HasType large.nets t n
  pub variables : (t : ElementType) (e : ℕ) → HasType small.variables t e → HasType large.variables t e
  pub targets : (place net : ℕ) → slice_get small.targets place ≡ Some net → slice_get large.targets place ≡ Some net

module _ (small large : Scope) (more : Extends small large) where
  rows_hold : (rows : Expr) → HoldsRows small rows → HoldsRows large rows
  rows_hold (signal nets) h = All-weaker (HasType small.nets nine_valued) (HasType large.nets nine_valued) (more.nets nine_valued) nets h
  rows_hold (variable es) h = All-weaker (HasType small.variables nine_valued) (HasType large.variables nine_valued) (more.variables nine_valued) es h
  rows_hold (constant values) h = h
  rows_hold _ h = absurd h

  expr_fits : (e : Expr) → FitsExpr small e → FitsExpr large e
  expr_fits (signal nets) h = (h.0, All-weaker (HasType small.nets nine_valued) (HasType large.nets nine_valued) (more.nets nine_valued) nets h.1)
  expr_fits (variable es) h = (h.0, All-weaker (HasType small.variables nine_valued) (HasType large.variables nine_valued) (more.variables nine_valued) es h.1)
  expr_fits (constant values) h = h
  expr_fits (inverse e) h = expr_fits e h
  expr_fits (filled len e) h = (h.0, expr_fits e h.1, h.2)
  expr_fits (binary op d e) h = (h.0, expr_fits d h.1, expr_fits e h.2, h.3)
  expr_fits (counted op count e) h = (h.0, expr_fits e h.1)
  expr_fits (shifted by count e) h = (expr_fits count h.0, expr_fits e h.1)
  expr_fits (converted by e) h = expr_fits e h
  expr_fits (chosen index spacing rows) h = (h.0, expr_fits index h.1, rows_hold rows h.2, h.3)

  pub value_fits : (t : ElementType) (v : Value) → FitsAs small t v → FitsAs large t v
  value_fits nine_valued (elements e) h = expr_fits e h
  value_fits (enumeration n) (position k) h = h
  value_fits (enumeration n) (position_of net) h = more.nets (enumeration n) net h
  value_fits (enumeration n) (position_in e) h = more.variables (enumeration n) e h
  value_fits _ _ h = absurd h

  both_fit : (v w : Value) → FitBoth small v w → FitBoth large v w
  both_fit v w h = (h.0, value_fits h.0 v h.1, value_fits h.0 w h.2)

  pub test_fits : (t : Test) → FitsTest small t → FitsTest large t
  test_fits (condition e) h = (expr_fits e h.0, h.1)
  test_fits (decided b) h = h
  test_fits (equal v w) h = both_fit v w h
  test_fits (unequal v w) h = both_fit v w h
  test_fits (level plain net v) h = more.nets nine_valued net h
  test_fits (compared op d e) h = (expr_fits d h.0, expr_fits e h.1)
  test_fits (compared_to op e n) h = expr_fits e h
  test_fits (rising net) h = more.nets nine_valued net h
  test_fits (falling net) h = more.nets nine_valued net h
  test_fits (event net) h = more.nets nine_valued net h
  test_fits (negated t) h = test_fits t h
  test_fits (combined op s t) h = (test_fits s h.0, test_fits t h.1)

  drives_fit : (t : ElementType) (place : ℕ) → DrivesType small t place → DrivesType large t place
  drives_fit t place h = (h.0, more.targets place h.0 h.1, more.nets t h.0 h.2)

  mutual
    pub stmt_fits : (s : Stmt) → FitsStmt small s → FitsStmt large s
    stmt_fits null_of h = h
    stmt_fits (assign places v) h = (h.0, value_fits h.0 v h.1, h.2, All-weaker (DrivesType small h.0) (DrivesType large h.0) (drives_fit h.0) places h.3)
    stmt_fits (set es v) h = (h.0, value_fits h.0 v h.1, h.2, All-weaker (HasType small.variables h.0) (HasType large.variables h.0) (more.variables h.0) es h.3)
    stmt_fits (assign_at index spacing places e) h =
        (h.0, expr_fits index h.1, expr_fits e h.2, h.3, All-weaker (DrivesType small nine_valued) (DrivesType large nine_valued) (drives_fit nine_valued) places h.4, h.5)
    stmt_fits (set_at index spacing es e) h =
        (h.0, expr_fits index h.1, expr_fits e h.2, h.3, All-weaker (HasType small.variables nine_valued) (HasType large.variables nine_valued) (more.variables nine_valued) es h.4, h.5)
    stmt_fits (if_of bs) h = branches_fit bs h
    stmt_fits (case_of v alts) h = (h.0, value_fits h.0 v h.1, alternatives_fit h.0 _ alts h.2)

    pub body_fits : (s : Stmts) → Fits small s → Fits large s
    body_fits done h = h
    body_fits (step s rest) h = (stmt_fits s h.0, body_fits rest h.1)

    branches_fit : (bs : Branches) → FitsBranches small bs → FitsBranches large bs
    branches_fit no_else h = h
    branches_fit (otherwise s) h = body_fits s h
    branches_fit (branch t s bs) h = (test_fits t h.0, body_fits s h.1, branches_fit bs h.2)

    alternatives_fit : (t : ElementType) (len : ℕ) (alts : Alternatives) → FitsAlternatives small t len alts → FitsAlternatives large t len alts
    alternatives_fit t len (others s) h = body_fits s h
    alternatives_fit t len (alternative choices s alts) h = (h.0, body_fits s h.1, alternatives_fit t len alts h.2)
