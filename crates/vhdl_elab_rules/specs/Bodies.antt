-- The body of a process in the flat netlist: where the expanded body has an element, a net stands, and where it assigns
-- an element, the place of that element's driver (IEEE 1076-2008, 14.7.2).
use Rattle.std.specs.Prelude.{ℕ, suc, ◌==◌, if◌then◌else◌, List, [], ◌∷◌, map, slice_index}
use Rattle.rtl_model.specs.bodies.Body.{Expr, signal, variable, constant, inverse, filled, binary, counted, shifted, converted, chosen}
use Rattle.rtl_model.specs.bodies.Body.{Value, elements, position, position_of, position_in}
use Rattle.rtl_model.specs.bodies.Body.{Test, condition, decided, equal, unequal, level, compared, compared_to}
use Rattle.rtl_model.specs.bodies.Body.{rising, falling, event, negated, combined}
use Rattle.rtl_model.specs.bodies.Body.{Stmt, null_of, assign, set, assign_at, set_at, if_of, case_of, Stmts, done, step}
use Rattle.rtl_model.specs.bodies.Body.{Branches, no_else, otherwise, branch, Alternatives, others, alternative}

-- where this element stands in a list
abbrev pub place_in : List ℕ → ℕ → ℕ
place_in [] e = 0
place_in (d ∷ ds) e = if d == e then 0 else suc (place_in ds e)

-- the nets of an instance's elements, and the elements that the process has drivers for
module _ (nets drives : List ℕ) where
  abbrev pub net_of : ℕ → ℕ
  net_of e = slice_index nets e

  abbrev pub nets_of : List ℕ → List ℕ
  nets_of es = map net_of es

  abbrev pub connected_expr : Expr → Expr
  connected_expr (signal es) = signal (nets_of es)
  connected_expr (variable es) = variable es
  connected_expr (constant values) = constant values
  connected_expr (inverse e) = inverse (connected_expr e)
  connected_expr (filled len e) = filled len (connected_expr e)
  connected_expr (binary op d e) = binary op (connected_expr d) (connected_expr e)
  connected_expr (counted op count e) = counted op count (connected_expr e)
  connected_expr (shifted by count e) = shifted by (connected_expr count) (connected_expr e)
  connected_expr (converted by e) = converted by (connected_expr e)
  connected_expr (chosen index spacing rows) = chosen (connected_expr index) spacing (connected_expr rows)

  abbrev pub connected_value : Value → Value
  connected_value (elements e) = elements (connected_expr e)
  connected_value (position n) = position n
  connected_value (position_of e) = position_of (net_of e)
  connected_value (position_in e) = position_in e

  abbrev pub connected_test : Test → Test
  connected_test (condition e) = condition (connected_expr e)
  connected_test (decided b) = decided b
  connected_test (equal v w) = equal (connected_value v) (connected_value w)
  connected_test (unequal v w) = unequal (connected_value v) (connected_value w)
  connected_test (level plain e x) = level plain (net_of e) x
  connected_test (compared op d e) = compared op (connected_expr d) (connected_expr e)
  connected_test (compared_to op e n) = compared_to op (connected_expr e) n
  connected_test (rising e) = rising (net_of e)
  connected_test (falling e) = falling (net_of e)
  connected_test (event e) = event (net_of e)
  connected_test (negated t) = negated (connected_test t)
  connected_test (combined op s t) = combined op (connected_test s) (connected_test t)

  abbrev mutual
    pub connected_stmt : Stmt → Stmt
    connected_stmt null_of = null_of
    connected_stmt (assign es v) = assign (map (place_in drives) es) (connected_value v)
    connected_stmt (set es v) = set es (connected_value v)
    connected_stmt (assign_at index spacing es e) =
        assign_at (connected_expr index) spacing (map (place_in drives) es) (connected_expr e)
    connected_stmt (set_at index spacing es e) = set_at (connected_expr index) spacing es (connected_expr e)
    connected_stmt (if_of bs) = if_of (connected_branches bs)
    connected_stmt (case_of v alts) = case_of (connected_value v) (connected_alternatives alts)

    pub connected_body : Stmts → Stmts
    connected_body done = done
    connected_body (step s rest) = step (connected_stmt s) (connected_body rest)

    pub connected_branches : Branches → Branches
    connected_branches no_else = no_else
    connected_branches (otherwise s) = otherwise (connected_body s)
    connected_branches (branch t s bs) = branch (connected_test t) (connected_body s) (connected_branches bs)

    pub connected_alternatives : Alternatives → Alternatives
    connected_alternatives (others s) = others (connected_body s)
    connected_alternatives (alternative choices s alts) =
        alternative choices (connected_body s) (connected_alternatives alts)
