-- The leaves of a body: what its expressions and tests look at, in order of the text, in each branch, taken or not.
use Rattle.std.specs.Prelude.{ℕ, Bool, false, ◌==◌, List, [], ◌∷◌, ◌++◌}
use Rattle.std.specs.List.{list_any}
use Rattle.rtl_model.specs.bodies.Body.{Expr, signal, variable, constant, inverse, filled, binary}
use Rattle.rtl_model.specs.bodies.Body.{counted, shifted, converted, chosen}
use Rattle.rtl_model.specs.bodies.Body.{Value, elements, position, position_of, position_in}
use Rattle.rtl_model.specs.bodies.Body.{Test, condition, decided, equal, unequal, level, compared, compared_to}
use Rattle.rtl_model.specs.bodies.Body.{rising, falling, event, negated, combined}
use Rattle.rtl_model.specs.bodies.Body.{Stmt, null_of, assign, set, assign_at, set_at, if_of, case_of, Stmts, done, step}
use Rattle.rtl_model.specs.bodies.Body.{Branches, no_else, otherwise, branch, Alternatives, others, alternative}

pub data Leaf : Type 0 where
  -- nets whose values are looked at
  of_nets : List ℕ → Leaf
  -- a net that an edge test or `'event` asks for an event
  of_event : ℕ → Leaf
  -- elements of variables
  of_elements : List ℕ → Leaf

abbrev pub expr_leaves : Expr → List Leaf
expr_leaves (signal nets) = of_nets nets ∷ []
expr_leaves (variable es) = of_elements es ∷ []
expr_leaves (constant values) = []
expr_leaves (inverse e) = expr_leaves e
expr_leaves (filled len e) = expr_leaves e
expr_leaves (binary op d e) = expr_leaves d ++ expr_leaves e
expr_leaves (counted op count e) = expr_leaves e
expr_leaves (shifted by count e) = expr_leaves count ++ expr_leaves e
expr_leaves (converted by e) = expr_leaves e
expr_leaves (chosen index spacing rows) = expr_leaves index ++ expr_leaves rows

abbrev pub value_leaves : Value → List Leaf
value_leaves (elements e) = expr_leaves e
value_leaves (position n) = []
value_leaves (position_of net) = of_nets (net ∷ []) ∷ []
value_leaves (position_in element) = of_elements (element ∷ []) ∷ []

abbrev pub test_leaves : Test → List Leaf
test_leaves (condition e) = expr_leaves e
test_leaves (decided b) = []
test_leaves (equal v w) = value_leaves v ++ value_leaves w
test_leaves (unequal v w) = value_leaves v ++ value_leaves w
test_leaves (level plain net v) = of_nets (net ∷ []) ∷ []
test_leaves (compared op d e) = expr_leaves d ++ expr_leaves e
test_leaves (compared_to op e n) = expr_leaves e
test_leaves (rising net) = of_event net ∷ []
test_leaves (falling net) = of_event net ∷ []
test_leaves (event net) = of_event net ∷ []
test_leaves (negated t) = test_leaves t
test_leaves (combined op s t) = test_leaves s ++ test_leaves t

abbrev mutual
  pub stmt_leaves : Stmt → List Leaf
  stmt_leaves null_of = []
  stmt_leaves (assign places v) = value_leaves v
  stmt_leaves (set es v) = value_leaves v
  stmt_leaves (assign_at index spacing places e) = expr_leaves index ++ expr_leaves e
  stmt_leaves (set_at index spacing es e) = expr_leaves index ++ expr_leaves e
  stmt_leaves (if_of bs) = branches_leaves bs
  stmt_leaves (case_of v alts) = value_leaves v ++ alternatives_leaves alts

  pub leaves : Stmts → List Leaf
  leaves done = []
  leaves (step s rest) = stmt_leaves s ++ leaves rest

  pub branches_leaves : Branches → List Leaf
  branches_leaves no_else = []
  branches_leaves (otherwise s) = leaves s
  branches_leaves (branch t s bs) = test_leaves t ++ (leaves s ++ branches_leaves bs)

  pub alternatives_leaves : Alternatives → List Leaf
  alternatives_leaves (others s) = leaves s
  alternatives_leaves (alternative choices s alts) = leaves s ++ alternatives_leaves alts

-- the nets that a leaf reads, those whose events it asks for, and whether it looks at the element e
abbrev pub read_of : Leaf → List ℕ
read_of (of_nets nets) = nets
read_of (of_event net) = net ∷ []
read_of (of_elements es) = []

abbrev pub event_of : Leaf → List ℕ
event_of (of_event net) = net ∷ []
event_of _ = []

abbrev pub leaf_looks_at : (e : ℕ) → Leaf → Bool
leaf_looks_at e (of_elements es) = list_any (λ d. d == e) es
leaf_looks_at e _ = false
