-- What contracts see of the parts of statements.
use Rattle.std.specs.Prelude.{ℕ, List, map, Option, option_map, Vec}
use Rattle.std.specs.Global.{Global}
use Rattle.rtl_model.specs.bodies.Body as bodies
use Rattle.rtl_net.specs.declared.body.Statement.{Statement}
use Rattle.rtl_net.specs.declared.body.Branch.{Branch}
use Rattle.rtl_net.specs.declared.body.Alternative.{Alternative}
use Rattle.rtl_net.specs.Bodies.{test_view, choice_view, statements_of, otherwise_of}
use Rattle.vhdl_expand_rules.specs.Integers.{Integers}
use Rattle.vhdl_expand_operands.specs.declared.selected.Selected.{Selected}
use Rattle.vhdl_expand_operands.specs.Selecteds.{selected_view}
use Rattle.vhdl_expand_choices.specs.declared.coding.Coding.{Coding}
use Rattle.vhdl_expand_choices.specs.Views.{codes_by}
use Rattle.vhdl_expand_statements.specs.steps.Statements as steps

abbrev pub branch_view : Branch → steps.Branch
branch_view x = record { test = test_view x.test; statements = statements_of x.statements.items }

abbrev pub branches_view : Vec Branch Global → List steps.Branch
branches_view v = map branch_view v.items

abbrev pub alternative_view : Alternative → steps.Alternative
alternative_view x = record { choices = map choice_view x.choices.items; statements = statements_of x.statements.items }

abbrev pub alternatives_view : Vec Alternative Global → List steps.Alternative
alternatives_view v = map alternative_view v.items

abbrev pub otherwise_view : Option (Vec Statement Global) → bodies.Branches
otherwise_view o = otherwise_of (option_map (λ v. v.items) o)

-- what a case on this byte is on, and what makes the codes of its choices
abbrev pub selector_view : Integers → (at : ℕ) → Selected × Coding → bodies.Value × steps.Codes
selector_view here at s = (selected_view s.0, codes_by here at s.1)
