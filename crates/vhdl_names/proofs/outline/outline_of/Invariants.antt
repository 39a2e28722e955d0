use Rattle.vhdl_tree.specs.View as view
use Rattle.vhdl_names.specs.Finding.{HasMemory}
use Rattle.vhdl_names.specs.Views.{outline_view}
use Rattle.vhdl_names.proofs.Naming.{Named}
use Rattle.vhdl_names.proofs.Past.{Outlined}
use Rattle.vhdl_names.proofs.Passing.{left_at}
use Rattle.vhdl_names.proofs.outline.outline_of.Given as goal

-- the names so far and the first that is at fault; and they are gathered past what is at fault
abbrev pub invariant-loop-unit : goal.invariant-loop-unit
invariant-loop-unit l =
    Named (view.units_view l.file.units) (outline_view l.outline) l.told (left_at l.file.units.items l.unit-index)
    × (HasMemory l.told → Outlined (view.units_view l.file.units) (outline_view l.outline) (left_at l.file.units.items l.unit-index))
