use Rattle.std.proofs.Common.{take}
use Rattle.rtl_check_nets.specs.Building.{AddsHubs}
use Rattle.rtl_check_nets.proofs.table.NetTable.add_hubs.Given as goal

abbrev pub invariant-loop-hub : goal.invariant-loop-hub
invariant-loop-hub l = AddsHubs l.nets (take l.hub-index l.hubs) l.initial.self l.self
