use Rattle.std.proofs.Common.{◌≡◌, get_or}
use Rattle.rtl_net.specs.declared.process.Process.{Process}
use Rattle.rtl_net.specs.Core.{core}
use Rattle.rtl_check.specs.Listing.{AddsFaults}
use Rattle.rtl_check.specs.Places.{widths}
use Rattle.rtl_check.proofs.StoredLists.{elements_below}
use Rattle.rtl_check.proofs.variables.stored_at.Given as goal

abbrev pub invariant-loop-element : goal.invariant-loop-element
invariant-loop-element l =
    (x : Process) → x ≡ get_or l.net.processes l.process x
    → AddsFaults (core l.net) (elements_below (widths x.variables.items) l.process l.element) l.initial.faults.items l.faults.items
