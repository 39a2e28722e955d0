use Rattle.std.proofs.Common.{◌≡◌, length}
use Rattle.rtlsim_circles.specs.Circles.{first_among}
use Rattle.rtlsim_circles.proofs.processes.first_among.Given as goal

abbrev pub invariant-loop-left : goal.invariant-loop-left
invariant-loop-left l = first_among l.others l.left ≡ first_among l.others l.nets

abbrev pub decreases-loop-left : goal.decreases-loop-left
decreases-loop-left l = length l.left
