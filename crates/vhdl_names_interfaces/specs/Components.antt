-- A component's own region.
use Rattle.std.specs.Prelude.{List, [], ◌∷◌, ◌++◌, Option, Some}
use Rattle.vhdl_tree.specs.Tree as t
use Rattle.vhdl_names_rules.specs.Rules.{◌>>=◌}
use Rattle.vhdl_names_rules.specs.Visibility.{Name, Declared, Sight, declare, unfinished}
use Rattle.vhdl_names_rules.specs.Interfaces.{interface}
use Rattle.vhdl_names_declarations.specs.Entered.{more}

-- what is in sight where a component's region begins
abbrev pub inner : Sight → Sight
inner sight = record sight { region = []; enclosing = sight.region ++ sight.enclosing }

-- a component's generics and ports are there
abbrev pub has_interface : Sight → t.Component → Option (Unit {0})
has_interface sight c = interface (inner sight) c.generics c.ports >>= λ _. Some tt

-- a name that a region may still declare
abbrev pub is_new : List Declared → Name → Option (Unit {0})
is_new ds n = more ds (declare n unfinished ∷ []) >>= λ _. Some tt
