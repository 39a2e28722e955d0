-- Ifs of the code.
use Rattle.std.specs.Prelude.{ℕ, Bool, false, List, map, Option, Some, None}
use denote.Ref.{Bor}
use Rattle.vhdl_names_trees.specs.declared.test.Test.{Test as CodeTest}
use Rattle.vhdl_names_rules.specs.units.Expressions.{Test}
use Rattle.vhdl_names_rules.specs.units.Statements as s
use Rattle.vhdl_names_trees.specs.views.Tests.{test_view}
use Rattle.vhdl_names_rules.specs.Registers.{are_one_edge}
use Rattle.vhdl_names_units.specs.declared.sequential.Statement.{Statement}
use Rattle.vhdl_names_units.specs.declared.sequential.Branch.{Branch}
use Rattle.vhdl_names_units.specs.declared.sequential.If.{If, out-If}
use Rattle.vhdl_names_units.specs.views.Sequential.{statement_view, body_view, branches_view, branches_of, last_of, option_statements_view}

abbrev pub branch_alone : Branch → s.Branches
branch_alone b = s.branch (test_view b.condition) (body_view b.statements) s.no_else

abbrev pub start_in : If → ℕ
start_in x = (out-If x).at

abbrev pub branches_in : If → s.Branches
branches_in x = branches_of (branches_view (out-If x).branches) (last_of (option_statements_view (out-If x).otherwise))

abbrev pub looked_at : Bor CodeTest → Test
looked_at t = test_view t.now

abbrev pub statement_at : Bor Statement → s.Statement
statement_at x = statement_view x.now

abbrev pub statements_at : List Statement → List s.Statement
statements_at xs = map statement_view xs

-- the condition of an if that has no other, and no else
abbrev pub only_condition : s.Branches → Option Test
only_condition (s.branch t xs s.no_else) = Some t
only_condition _ = None

abbrev pub are_one : s.Branches → s.Branches → Bool
are_one (s.branch t xs s.no_else) (s.branch r ys s.no_else) = are_one_edge t r
are_one _ _ = false
