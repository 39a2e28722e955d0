use Rattle.std.proofs.Common.{map, take}
use Rattle.rtl_model.specs.simulation.Netlist.{Idle}
use Rattle.rtl_net.specs.Parts.{idle_at}
use Rattle.rtl_net.specs.steps.Tables.{AddsSources}
use Rattle.rtl_net.proofs.building.add_idle.Given as goal

abbrev pub invariant-loop-port : goal.invariant-loop-port
invariant-loop-port l = AddsSources (λ n. map Idle (idle_at (take l.port-index l.idle) n)) l.initial.table.items l.table.items
