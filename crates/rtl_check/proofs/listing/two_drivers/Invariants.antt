use Rattle.rtl_net.specs.Core.{core}
use Rattle.rtl_check.specs.Listing.{below_place, AddsFaults}
use Rattle.rtl_check.proofs.listing.two_drivers.Given as goal

abbrev pub invariant-loop-number : goal.invariant-loop-number
invariant-loop-number l = AddsFaults (core l.net) (below_place 1 l.number) l.initial.faults.items l.faults.items
