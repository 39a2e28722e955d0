-- Parts of bodies that stand in lists: whether they assign a variable element on every path, or store it.
use Rattle.std.specs.Prelude.{ℕ, Bool, ◌||◌}
use Rattle.rtl_net.specs.declared.body.Statement.{Statement}
use Rattle.rtl_net.specs.declared.body.Branch.{Branch}
use Rattle.rtl_net.specs.declared.body.Alternative.{Alternative}
use Rattle.rtl_net.specs.Bodies.{test_view, statement_view, statements_of}
use Rattle.rtl_model.specs.bodies.Assigns.{must_assign, stmt_must_assign, is_element}
use Rattle.rtl_model.specs.bodies.Stored.{test_looks_at, stores_element}

-- a branch of an if, and an alternative of a case
abbrev pub branch_assigns : (element : ℕ) → Branch → Bool
branch_assigns element b = must_assign (is_element element) (statements_of b.statements.items)

abbrev pub alternative_assigns : (element : ℕ) → Alternative → Bool
alternative_assigns element a = must_assign (is_element element) (statements_of a.statements.items)

abbrev pub branch_stores : (element : ℕ) → Branch → Bool
branch_stores element b =
    test_looks_at element (test_view b.test) || stores_element element (statements_of b.statements.items)

abbrev pub alternative_stores : (element : ℕ) → Alternative → Bool
alternative_stores element a = stores_element element (statements_of a.statements.items)

abbrev pub statement_assigned : (element : ℕ) → Statement → Bool
statement_assigned element s = stmt_must_assign (is_element element) (statement_view s)
