-- Sequential statements of the code.
use Rattle.std.specs.Prelude.{List, [], ◌∷◌, map, Option, Some, None, option_map, Vec}
use Rattle.std.specs.Global.{Global}
use Rattle.vhdl_names_rules.specs.units.Expressions.{Test}
use Rattle.vhdl_names_rules.specs.units.Statements as s
use Rattle.vhdl_names_trees.specs.views.Integers.{range_view}
use Rattle.vhdl_names_trees.specs.views.Vectors.{signal_view, part_view, place_view, chosen_view, value_view}
use Rattle.vhdl_names_trees.specs.views.Tests.{test_view}
use Rattle.vhdl_names_units.specs.views.Answers.{given_view, choices_view}
use Rattle.vhdl_names_units.specs.declared.sequential.Statement.{Statement}
use Rattle.vhdl_names_units.specs.declared.sequential.Statement.TheVariants as t
use Rattle.vhdl_names_units.specs.declared.sequential.Statement.TheBlock.{Held-If-otherwise, None', Some', Row_of-Statement, end_of-Statement, more_of-Statement, Row_of-Branch, end_of-Branch, more_of-Branch, Row_of-Alternative, end_of-Alternative, more_of-Alternative}
use Rattle.vhdl_names_units.specs.declared.sequential.If.{If, If'}
use Rattle.vhdl_names_units.specs.declared.sequential.Case.{Case, Case'}
use Rattle.vhdl_names_units.specs.declared.sequential.Branch.{Branch}
use Rattle.vhdl_names_units.specs.declared.sequential.Alternative.{Alternative}

-- what is done otherwise: by the last alternative, whose choices are kept where they are integers
abbrev pub last_alternative : List s.Choice → s.Statements → s.Alternatives
last_alternative [] statements = s.others statements
last_alternative (c ∷ cs) statements = s.complete (c ∷ cs) statements

abbrev mutual
  pub statement_view : Statement → s.Statement
  statement_view t.Null = s.null_of
  statement_view (t.Assign target value) = s.assign (place_view target) (given_view value)
  statement_view (t.Set at number part value) = s.set at number (part_view part) (given_view value)
  statement_view (t.AssignIn at x c value) = s.assign_in at (signal_view x) (chosen_view c) (given_view value)
  statement_view (t.SetIn at k c value) = s.set_in at k (chosen_view c) (given_view value)
  statement_view (t.If x) = if_view x
  statement_view (t.Case x) = case_view x
  statement_view (t.Loop' at range shape statements) = s.for_of at (range_view range) (statements_row statements)

  pub if_view : If → s.Statement
  if_view (If' at shape branches otherwise) = s.if_of at (branches_row branches (last_row otherwise))

  pub case_view : Case → s.Statement
  case_view (Case' at selector shape alternatives last shape' others) =
      s.case_of at (value_view selector)
      (alternatives_row alternatives (last_alternative (choices_view last) (statements_row others)))

  pub statements_row : {m : _} → Row_of-Statement m → s.Statements
  statements_row end_of-Statement = s.done
  statements_row (more_of-Statement x rest) = s.step (statement_view x) (statements_row rest)

  pub branches_row : {m : _} → Row_of-Branch m → s.Branches → s.Branches
  branches_row end_of-Branch last = last
  branches_row (more_of-Branch condition shape statements rest) last =
      s.branch (test_view condition) (statements_row statements) (branches_row rest last)

  pub alternatives_row : {m : _} → Row_of-Alternative m → s.Alternatives → s.Alternatives
  alternatives_row end_of-Alternative last = last
  alternatives_row (more_of-Alternative choices shape statements rest) last =
      s.alternative (choices_view choices) (statements_row statements) (alternatives_row rest last)

  pub last_row : Held-If-otherwise → s.Branches
  last_row None' = s.no_else
  last_row (Some' shape row) = s.otherwise (statements_row row)

-- ---- the same of a `Vec`

abbrev pub statements_of : List s.Statement → s.Statements
statements_of [] = s.done
statements_of (x ∷ xs) = s.step x (statements_of xs)

pub record Guarded : Type 0 where
  pub condition : Test
  pub statements : List s.Statement

pub record Chosen : Type 0 where
  pub choices : List s.Choice
  pub statements : List s.Statement

abbrev pub guarded_by : Test → List s.Statement → Guarded
guarded_by condition statements = record { condition = condition; statements = statements }

abbrev pub chosen_by : List s.Choice → List s.Statement → Chosen
chosen_by choices statements = record { choices = choices; statements = statements }

-- branches, and what is done else
abbrev pub branches_of : List Guarded → s.Branches → s.Branches
branches_of [] last = last
branches_of (b ∷ bs) last = s.branch b.condition (statements_of b.statements) (branches_of bs last)

abbrev pub last_of : Option (List s.Statement) → s.Branches
last_of None = s.no_else
last_of (Some xs) = s.otherwise (statements_of xs)

-- alternatives, and the last one
abbrev pub alternatives_of : List Chosen → s.Alternatives → s.Alternatives
alternatives_of [] last = last
alternatives_of (a ∷ more) last = s.alternative a.choices (statements_of a.statements) (alternatives_of more last)

abbrev pub statements_view : Vec Statement Global → List s.Statement
statements_view v = map statement_view v.items

abbrev pub body_view : Vec Statement Global → s.Statements
body_view v = statements_of (statements_view v)

abbrev pub option_statements_view : Option (Vec Statement Global) → Option (List s.Statement)
option_statements_view = option_map statements_view

abbrev pub branch_view : Branch → Guarded
branch_view b = record { condition = test_view b.condition; statements = statements_view b.statements }

abbrev pub branches_view : Vec Branch Global → List Guarded
branches_view v = map branch_view v.items

abbrev pub alternative_view : Alternative → Chosen
alternative_view a = record { choices = choices_view a.choices; statements = statements_view a.statements }

abbrev pub alternatives_view : Vec Alternative Global → List Chosen
alternatives_view v = map alternative_view v.items
