use Rattle.rtl_net.specs.Core.{core}
use Rattle.rtl_check_nets.specs.Built.{IsBuilt}
use Rattle.rtl_check_nets.proofs.table.table_of.Given as goal

abbrev pub invariant-loop-process : goal.invariant-loop-process
invariant-loop-process l = IsBuilt (core l.net) l.hubs.hubs.items l.process l.table
