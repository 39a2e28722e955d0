-- Stored variables: whether some expression of a body reads an element that the statements before it don't assign on
-- every syntactic path. Its value would be the one that the run before left.
use Rattle.std.specs.Prelude.{ℕ, Bool, false, not, ◌&&◌, ◌||◌, ◌==◌}
use Rattle.std.specs.List.{list_any}
use Rattle.rtl_model.specs.bodies.Body.{Expr, signal, variable, constant, inverse, filled, binary}
use Rattle.rtl_model.specs.bodies.Body.{counted, shifted, converted, chosen}
use Rattle.rtl_model.specs.bodies.Body.{Value, elements, position, position_of, position_in}
use Rattle.rtl_model.specs.bodies.Body.{Test, condition, equal, unequal, compared, compared_to}
use Rattle.rtl_model.specs.bodies.Body.{negated, combined}
use Rattle.rtl_model.specs.bodies.Body.{Stmt, null_of, assign, set, assign_at, set_at, if_of, case_of, Stmts, done, step}
use Rattle.rtl_model.specs.bodies.Body.{Branches, no_else, otherwise, branch, Alternatives, others, alternative}
use Rattle.rtl_model.specs.bodies.Assigns.{is_element, stmt_must_assign}

module _ (k : ℕ) where
  -- ---- whether it reads the element k

  abbrev pub expr_looks_at : Expr → Bool
  expr_looks_at (signal nets) = false
  expr_looks_at (variable ks) = list_any (λ j. j == k) ks
  expr_looks_at (constant values) = false
  expr_looks_at (inverse d) = expr_looks_at d
  expr_looks_at (filled len d) = expr_looks_at d
  expr_looks_at (binary op c d) = expr_looks_at c || expr_looks_at d
  expr_looks_at (counted op count d) = expr_looks_at d
  expr_looks_at (shifted by count d) = expr_looks_at count || expr_looks_at d
  expr_looks_at (converted by d) = expr_looks_at d
  expr_looks_at (chosen index spacing rows) = expr_looks_at index || expr_looks_at rows

  abbrev pub value_looks_at : Value → Bool
  value_looks_at (elements d) = expr_looks_at d
  value_looks_at (position n) = false
  value_looks_at (position_of net) = false
  value_looks_at (position_in element) = element == k

  abbrev pub test_looks_at : Test → Bool
  test_looks_at (condition d) = expr_looks_at d
  test_looks_at (equal v w) = value_looks_at v || value_looks_at w
  test_looks_at (unequal v w) = value_looks_at v || value_looks_at w
  test_looks_at (compared op c d) = expr_looks_at c || expr_looks_at d
  test_looks_at (compared_to op d n) = expr_looks_at d
  test_looks_at (negated t) = test_looks_at t
  test_looks_at (combined op s t) = test_looks_at s || test_looks_at t
  test_looks_at _ = false

  -- ---- whether it does so where it isn't assigned before

  abbrev mutual
    pub stmt_stores : Stmt → Bool
    stmt_stores null_of = false
    stmt_stores (assign places v) = value_looks_at v
    stmt_stores (set ks v) = value_looks_at v
    stmt_stores (assign_at index spacing places d) = expr_looks_at index || expr_looks_at d
    stmt_stores (set_at index spacing ks d) = expr_looks_at index || expr_looks_at d
    stmt_stores (if_of bs) = branches_store bs
    stmt_stores (case_of v alts) = value_looks_at v || alternatives_store alts

    -- what a statement assigns on every path, the later ones may read
    pub stores_element : Stmts → Bool
    stores_element done = false
    stores_element (step s rest) = stmt_stores s || (not (stmt_must_assign (is_element k) s) && stores_element rest)

    pub branches_store : Branches → Bool
    branches_store no_else = false
    branches_store (otherwise s) = stores_element s
    branches_store (branch t s bs) = test_looks_at t || (stores_element s || branches_store bs)

    pub alternatives_store : Alternatives → Bool
    alternatives_store (others s) = stores_element s
    alternatives_store (alternative choices s alts) = stores_element s || alternatives_store alts
