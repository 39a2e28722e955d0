use Rattle.vhdl_tree.specs.View as view
use Rattle.vhdl_names_interfaces.specs.Views.{entities_view}
use Rattle.vhdl_names.specs.Views.{architectures_view}
use Rattle.vhdl_names.proofs.Entering.{Entered}
use Rattle.vhdl_names.proofs.Passing.{left_at}
use Rattle.vhdl_names.proofs.entities.entities_of.Given as goal

abbrev pub invariant-loop-unit : goal.invariant-loop-unit
invariant-loop-unit l =
    Entered l.language (architectures_view l.outline.architectures) (view.units_view l.file.units) (entities_view l.entities) l.told (left_at l.file.units.items l.unit-index)
