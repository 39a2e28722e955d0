-- The names that parts of bodies read, or assign, where the parts stand in lists.
use Rattle.std.specs.Prelude.{List, [], ◌++◌, flat_map, Option, Some, None, Vec}
use Rattle.std.specs.Global.{Global}
use Rattle.vhdl_names_rules.specs.units.Expressions as u
use Rattle.vhdl_names_trees.specs.views.Tests.{test_view}
use Rattle.vhdl_names_units.specs.declared.sequential.Statement.{Statement}
use Rattle.vhdl_names_units.specs.declared.sequential.Branch.{Branch}
use Rattle.vhdl_names_units.specs.declared.sequential.Alternative.{Alternative}
use Rattle.vhdl_names_units.specs.views.Sequential.{statement_view}
use Rattle.vhdl_expand_rules.specs.declared.prefix.Sought.{Sought}
use Rattle.vhdl_expand_rules.specs.Prefixes as definition

-- a statement of a sequence, a branch of an if, what it does else, and an alternative of a case
abbrev pub statement_names : Sought → Statement → List u.SignalPart
statement_names sought x = definition.statement_names sought (statement_view x)

abbrev pub branch_names : Sought → Branch → List u.SignalPart
branch_names sought b =
    definition.read_ones sought (definition.test_names (test_view b.condition))
    ++ flat_map (statement_names sought) b.statements.items

abbrev pub last_names : Sought → Option (Vec Statement Global) → List u.SignalPart
last_names sought None = []
last_names sought (Some list) = flat_map (statement_names sought) list.items

abbrev pub alternative_names : Sought → Alternative → List u.SignalPart
alternative_names sought a = flat_map (statement_names sought) a.statements.items
