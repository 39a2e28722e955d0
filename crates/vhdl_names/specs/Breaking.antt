-- Which rule the name of a unit breaks, behind the names that are gathered before it.
use Rattle.std.specs.Prelude.{not}
use Rattle.vhdl_tree.specs.Tree as t
use Rattle.vhdl_tree.specs.Tree.{LibraryUnit}
use Rattle.vhdl_names_rules.specs.declared.fault.NameProblem.TheVariants.{Undeclared, Twice, SecondArchitecture}
use Rattle.vhdl_names_rules.specs.Visibility.{is_among}
use Rattle.vhdl_names_rules.specs.problems.Broken.{Broken, ◌▸◌, unless}
use Rattle.vhdl_names.specs.Views.{OutlineView}
use Rattle.vhdl_names.specs.steps.Outlines.{names_of}

abbrev pub one_unit : OutlineView → LibraryUnit → Broken
one_unit o (t.LibraryUnit.entity e) = unless Twice e.name.at (not (is_among e.name.text o.entities))
one_unit o (t.architecture a) =
    unless Undeclared a.entity.at (is_among a.entity.text o.entities)
    ▸ unless SecondArchitecture a.entity.at (not (is_among a.entity.text (names_of o.architectures)))
