-- Labels inside a process in the order in which the code comes to them.
use Rattle.std.specs.Prelude.{List, ◌++◌, Option, Some, None}
use Rattle.vhdl_tree.specs.Tree as t
use Rattle.vhdl_names_rules.specs.Rules.{◌>>=◌}
use Rattle.vhdl_names_rules.specs.Visibility.{Name}
use Rattle.vhdl_names_rules.specs.Statements.{label_names, inner_labels}
use Rattle.vhdl_names_units.specs.Lists.{in_turn}
use Rattle.vhdl_names_units.specs.Once.{one_name}

-- with the labels of a statement, after those before it
abbrev pub with_statement : List Name → t.Sequential → Option (List Name)
with_statement ns q = in_turn one_name ns (label_names q.label ++ inner_labels q.statement)

abbrev pub with_statements : List Name → List t.Sequential → Option (List Name)
with_statements ns qs = in_turn with_statement ns qs

abbrev pub with_branch : List Name → t.Conditional → Option (List Name)
with_branch ns b = with_statements ns b.statements

abbrev pub with_alternative : List Name → t.Alternative → Option (List Name)
with_alternative ns a = with_statements ns a.statements

abbrev pub with_else : List Name → Option (List t.Sequential) → Option (List Name)
with_else ns None = Some ns
with_else ns (Some qs) = with_statements ns qs

abbrev pub with_if : List Name → List t.Conditional → Option (List t.Sequential) → Option (List Name)
with_if ns bs o = in_turn with_branch ns bs >>= λ ms. with_else ms o
