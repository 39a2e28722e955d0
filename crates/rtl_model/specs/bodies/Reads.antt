-- What a body reads, in each branch, taken or not: the nets whose values or whose events it looks at, and those whose
-- events alone. Variables are no nets.
use Rattle.std.specs.Prelude.{ℕ, List, [], ◌∷◌, ◌++◌}
use Rattle.rtl_model.specs.bodies.Body.{Expr, signal, variable, constant, inverse, filled, binary}
use Rattle.rtl_model.specs.bodies.Body.{counted, shifted, converted, chosen}
use Rattle.rtl_model.specs.bodies.Body.{Value, elements, position, position_of, position_in}
use Rattle.rtl_model.specs.bodies.Body.{Test, condition, decided, equal, unequal, level, compared, compared_to}
use Rattle.rtl_model.specs.bodies.Body.{rising, falling, event, negated, combined}
use Rattle.rtl_model.specs.bodies.Body.{Stmt, null_of, assign, set, assign_at, set_at, if_of, case_of, Stmts, done, step}
use Rattle.rtl_model.specs.bodies.Body.{Branches, no_else, otherwise, branch, Alternatives, others, alternative}

-- ---- what is read: of rows all, whichever is chosen, and the index of a target too

abbrev pub expr_reads : Expr → List ℕ
expr_reads (signal nets) = nets
expr_reads (variable ks) = []
expr_reads (constant values) = []
expr_reads (inverse e) = expr_reads e
expr_reads (filled len e) = expr_reads e
expr_reads (binary op d e) = expr_reads d ++ expr_reads e
expr_reads (counted op count e) = expr_reads e
expr_reads (shifted by count e) = expr_reads count ++ expr_reads e
expr_reads (converted by e) = expr_reads e
expr_reads (chosen index spacing rows) = expr_reads index ++ expr_reads rows

abbrev pub value_reads : Value → List ℕ
value_reads (elements e) = expr_reads e
value_reads (position n) = []
value_reads (position_of net) = net ∷ []
value_reads (position_in element) = []

abbrev pub test_reads : Test → List ℕ
test_reads (condition e) = expr_reads e
test_reads (decided b) = []
test_reads (equal v w) = value_reads v ++ value_reads w
test_reads (unequal v w) = value_reads v ++ value_reads w
test_reads (level plain net v) = net ∷ []
test_reads (compared op d e) = expr_reads d ++ expr_reads e
test_reads (compared_to op e n) = expr_reads e
test_reads (rising net) = net ∷ []
test_reads (falling net) = net ∷ []
test_reads (event net) = net ∷ []
test_reads (negated t) = test_reads t
test_reads (combined op s t) = test_reads s ++ test_reads t

abbrev mutual
  pub stmt_reads : Stmt → List ℕ
  stmt_reads null_of = []
  stmt_reads (assign places v) = value_reads v
  stmt_reads (set ks v) = value_reads v
  stmt_reads (assign_at index spacing places e) = expr_reads index ++ expr_reads e
  stmt_reads (set_at index spacing ks e) = expr_reads index ++ expr_reads e
  stmt_reads (if_of bs) = branches_reads bs
  stmt_reads (case_of v alts) = value_reads v ++ alternatives_reads alts

  pub reads : Stmts → List ℕ
  reads done = []
  reads (step s rest) = stmt_reads s ++ reads rest

  pub branches_reads : Branches → List ℕ
  branches_reads no_else = []
  branches_reads (otherwise s) = reads s
  branches_reads (branch t s bs) = test_reads t ++ (reads s ++ branches_reads bs)

  pub alternatives_reads : Alternatives → List ℕ
  alternatives_reads (others s) = reads s
  alternatives_reads (alternative choices s alts) = reads s ++ alternatives_reads alts

-- ---- edge tests and `'event`

abbrev pub test_events : Test → List ℕ
test_events (rising net) = net ∷ []
test_events (falling net) = net ∷ []
test_events (event net) = net ∷ []
test_events (negated t) = test_events t
test_events (combined op s t) = test_events s ++ test_events t
test_events _ = []

abbrev mutual
  pub stmt_events : Stmt → List ℕ
  stmt_events null_of = []
  stmt_events (assign places v) = []
  stmt_events (set ks v) = []
  stmt_events (assign_at index spacing places e) = []
  stmt_events (set_at index spacing ks e) = []
  stmt_events (if_of bs) = branches_events bs
  stmt_events (case_of v alts) = alternatives_events alts

  pub events : Stmts → List ℕ
  events done = []
  events (step s rest) = stmt_events s ++ events rest

  pub branches_events : Branches → List ℕ
  branches_events no_else = []
  branches_events (otherwise s) = events s
  branches_events (branch t s bs) = test_events t ++ (events s ++ branches_events bs)

  pub alternatives_events : Alternatives → List ℕ
  alternatives_events (others s) = events s
  alternatives_events (alternative choices s alts) = events s ++ alternatives_events alts
