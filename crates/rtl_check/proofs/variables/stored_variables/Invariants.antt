use Rattle.rtl_net.specs.Core.{core}
use Rattle.rtl_check.specs.Listing.{below_place, AddsFaults}
use Rattle.rtl_check.proofs.variables.stored_variables.Given as goal

abbrev pub invariant-loop-process : goal.invariant-loop-process
invariant-loop-process l = AddsFaults (core l.net) (below_place 9 l.process) l.initial.faults.items l.faults.items
