use Rattle.std.proofs.Common.{take}
use Rattle.rtl_model.specs.nets.FlatNetlist.{drivers_of}
use Rattle.rtl_net.specs.steps.Tables.{nets_of, AddsSources}
use Rattle.rtl_net.proofs.building.add_drivers.Given as goal

abbrev pub invariant-loop-place : goal.invariant-loop-place
invariant-loop-place l = AddsSources (λ n. drivers_of n l.process 0 (take l.place (nets_of l.drives))) l.initial.table.items l.table.items
