use Rattle.std.proofs.Common.{◌≡◌, ◌++◌, length}
use Rattle.rtlsim_circles.specs.Circles.{round_text}
use Rattle.rtlsim_circles.proofs.processes.round_text.Given as goal

-- what is told of those that are left is the rest of the text
abbrev pub invariant-loop-left : goal.invariant-loop-left
invariant-loop-left l = l.text.items ++ round_text l.net l.first l.left ≡ round_text l.net l.first l.processes

abbrev pub decreases-loop-left : goal.decreases-loop-left
decreases-loop-left l = length l.left
