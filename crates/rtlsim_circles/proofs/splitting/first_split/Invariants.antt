use Rattle.std.proofs.Common.{◌≡◌, length}
use Rattle.rtlsim_circles.specs.Splits.{first_split}
use Rattle.rtlsim_circles.proofs.splitting.first_split.Given as goal

-- the processes that are left decide
abbrev pub invariant-loop-left : goal.invariant-loop-left
invariant-loop-left l = first_split l.net l.first l.previous l.left ≡ first_split l.net l.first l.before l.processes

abbrev pub decreases-loop-left : goal.decreases-loop-left
decreases-loop-left l = length l.left
