use Rattle.vhdl_names_rules.specs.Registers.{concurrent_written}
use Rattle.vhdl_names_units.specs.views.Concurrent.{concurrent_view}
use Rattle.vhdl_names_registers.proofs.Replacing.{BecameTo}
use Rattle.vhdl_names_registers.proofs.units.+concurrent.Given as goal

-- the first ones are written, and the others are as they were
abbrev pub invariant-concurrents-loop-index : goal.invariant-concurrents-loop-index
invariant-concurrents-loop-index l =
    goal.unvisited-concurrents-loop-index l × BecameTo concurrent_view concurrent_written l.index l.initial.all l.all
