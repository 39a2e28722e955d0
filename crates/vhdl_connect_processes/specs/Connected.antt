-- Bodies in place, as contracts see them: of each part of a body what stands for it in the flat netlist.
use Rattle.std.specs.Prelude.{◌≡◌, ℕ, ◌+◌, ◌-◌, ◌<◌, ◌≤◌, List, length, map, slice_index}
use Rattle.rtl_model.specs.bodies.Body as bodies
use Rattle.rtl_net.specs.Bodies.{operator_view, expr_view, test_view, statements_of, choice_view}
use Rattle.rtl_net.specs.declared.body.Link.{Link}
use Rattle.rtl_net.specs.declared.body.TestLink.{TestLink}
use Rattle.rtl_net.specs.declared.body.Branch.{Branch}
use Rattle.rtl_net.specs.declared.body.Alternative.{Alternative}
use Rattle.vhdl_values.specs.declared.kinds.Logic.{Logic}
use Rattle.vhdl_elab_rules.specs.Bodies.{connected_expr, connected_value, connected_test, connected_stmt, connected_body}
use Rattle.vhdl_connect_processes.specs.declared.connection.Connection.{Connection}

-- ---- what a connection makes of the parts of a body

abbrev pub expr_in : Connection → bodies.Expr → bodies.Expr
expr_in c = connected_expr c.nets.now c.drives.now

abbrev pub value_in : Connection → bodies.Value → bodies.Value
value_in c = connected_value c.nets.now c.drives.now

abbrev pub test_in : Connection → bodies.Test → bodies.Test
test_in c = connected_test c.nets.now c.drives.now

abbrev pub statement_in : Connection → bodies.Stmt → bodies.Stmt
statement_in c = connected_stmt c.nets.now c.drives.now

abbrev pub body_in : Connection → bodies.Stmts → bodies.Stmts
body_in c = connected_body c.nets.now c.drives.now

-- ---- lists of parts

-- a further operator of a chain
pub record LinkView : Type 0 where
  pub operator : bodies.Operator
  pub operand : bodies.Expr

abbrev pub link_view : Link → LinkView
link_view l = record { operator = operator_view l.operator; operand = expr_view l.operand }

abbrev pub link_in : Connection → LinkView → LinkView
link_in c l = record l { operand = expr_in c l.operand }

-- a further condition of a chain
pub record TestLinkView : Type 0 where
  pub operator : Logic
  pub operand : bodies.Test

abbrev pub test_link_view : TestLink → TestLinkView
test_link_view l = record { operator = l.operator; operand = test_view l.operand }

abbrev pub test_link_in : Connection → TestLinkView → TestLinkView
test_link_in c l = record l { operand = test_in c l.operand }

-- a branch of an if
pub record BranchView : Type 0 where
  pub test : bodies.Test
  pub statements : bodies.Stmts

abbrev pub branch_view : Branch → BranchView
branch_view b = record { test = test_view b.test; statements = statements_of b.statements.items }

abbrev pub branch_in : Connection → BranchView → BranchView
branch_in c b = record { test = test_in c b.test; statements = body_in c b.statements }

-- an alternative of a case
pub record AlternativeView : Type 0 where
  pub choices : List (List ℕ)
  pub statements : bodies.Stmts

abbrev pub alternative_view : Alternative → AlternativeView
alternative_view a = record { choices = map choice_view a.choices.items; statements = statements_of a.statements.items }

abbrev pub alternative_in : Connection → AlternativeView → AlternativeView
alternative_in c a = record a { statements = body_in c a.statements }

-- Each thing of a list has become what is made of it.
abbrev pub Became : {X V : Type 0} → (X → V) → (V → V) → (old new : List X) → Type 0
Became view made old new = map view new ≡ map made (map view old)

-- ---- drivers

-- each number is above the one before it
abbrev pub IsRising : List ℕ → Type 0
IsRising ns = (i j : ℕ) → i ≤ j → j < length ns → slice_index ns i + (j - i) ≤ slice_index ns j
