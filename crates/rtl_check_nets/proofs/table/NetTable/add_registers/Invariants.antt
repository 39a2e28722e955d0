use Rattle.std.proofs.Common.{take}
use Rattle.rtl_check_nets.specs.Building.{AddsRegisters}
use Rattle.rtl_check_nets.proofs.table.NetTable.add_registers.Given as goal

abbrev pub invariant-loop-net : goal.invariant-loop-net
invariant-loop-net l = AddsRegisters l.nets l.reset (take l.net-index l.registers) l.initial.self l.self
