-- What a choice of another type than integers is.
use Rattle.std.specs.Prelude.{Option, None}
use Rattle.vhdl_tree.specs.Tree as t
use Rattle.vhdl_names_rules.specs.declared.kind.ObjectType.{ObjectType}
use Rattle.vhdl_names_rules.specs.declared.fault.NameProblem.TheVariants.{WrongKind, LeftOut}
use Rattle.vhdl_names_rules.specs.units.Statements.{Choice}
use Rattle.vhdl_names_rules.specs.Visibility.{Sight}
use Rattle.vhdl_names_rules.specs.Choices as rules
use Rattle.vhdl_names_rules.specs.problems.Broken.{Broken, refused}
use Rattle.vhdl_names_rules.specs.problems.Choices as broken
use Rattle.vhdl_names_rules.specs.problems.Places.{start}

abbrev pub single_choice : Sight → ObjectType → t.Choice → Option Choice
single_choice sight type (t.chosen e) = rules.chosen sight type e
single_choice sight type (t.chosen_range d direction e) = None
single_choice sight type (t.otherwise at) = None

abbrev pub single_choice_breaks : Sight → ObjectType → t.Choice → Broken
single_choice_breaks sight type (t.chosen e) = broken.chosen sight type e
single_choice_breaks sight type (t.chosen_range d direction e) = refused LeftOut (start d)
single_choice_breaks sight type (t.otherwise at) = refused WrongKind at
