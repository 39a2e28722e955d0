use Rattle.std.proofs.Common.{◌≡◌, false, length, replicate, None}
use Rattle.vhdl_tree.specs.View as view
use Rattle.vhdl_names_units.specs.Lists.{in_turn}
use Rattle.vhdl_names_units.specs.Once.{names_view}
use Rattle.vhdl_names_interfaces.specs.Views.{entities_view}
use Rattle.vhdl_names_rules.specs.Visibility.{Name}
use Rattle.vhdl_names_rules.specs.Files.{architectures_of}
use Rattle.vhdl_names_rules.specs.problems.Broken.{any_of}
use Rattle.vhdl_names_rules.specs.problems.Files.{described}
use Rattle.vhdl_names.specs.Views.{is_hidden}
use Rattle.vhdl_names.specs.steps.Architectures.{options_view, with_unit}
use Rattle.vhdl_names.proofs.Passing.{left_at}
use Rattle.vhdl_names.proofs.architectures.architectures_of.Given as goal

-- each entity has a place, those that are done break nothing, and what is left, behind them, gives the whole
abbrev pub invariant-loop-unit : goal.invariant-loop-unit
invariant-loop-unit l =
    (length l.all.items ≡ length (entities_view l.given.entities.now))
    × ((any_of (described l.given.language (names_view l.given.names.now) (entities_view l.given.entities.now)) (architectures_of (view.units_view l.file.units))
    ≡ any_of (described l.given.language (names_view l.given.names.now) (entities_view l.given.entities.now)) (architectures_of (left_at l.file.units.items l.unit-index)))
    × (((n : Name) → is_hidden l.given n ≡ false)
    → in_turn (with_unit (entities_view l.given.entities.now)) (replicate (length (entities_view l.given.entities.now)) None) (view.units_view l.file.units)
    ≡ in_turn (with_unit (entities_view l.given.entities.now)) (options_view l.all) (left_at l.file.units.items l.unit-index)))
