use Rattle.vhdl_names_rules.specs.Registers.{entity_written}
use Rattle.vhdl_names_units.specs.views.Units.{entity_view}
use Rattle.vhdl_names_registers.proofs.Replacing.{BecameTo}
use Rattle.vhdl_names_registers.proofs.units.written.Given as goal

-- the first ones are written, and the others are as they were
abbrev pub invariant-loop-index : goal.invariant-loop-index
invariant-loop-index l = BecameTo entity_view entity_written l.index l.initial.units.entities.items l.units.entities.items
