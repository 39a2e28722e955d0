use Rattle.std.proofs.Common.{◌≡◌, length}
use Rattle.rtl_progress.specs.Stops.{stop_of}
use Rattle.rtl_progress.proofs.stops.stop_of.Given as goal

-- the lines before those that are left say none
abbrev pub invariant-loop-end : goal.invariant-loop-end
invariant-loop-end l = stop_of l.text ≡ stop_of l.left

abbrev pub decreases-loop-end : goal.decreases-loop-end
decreases-loop-end l = length l.left
