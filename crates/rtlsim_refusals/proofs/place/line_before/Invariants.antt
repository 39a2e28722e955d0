use Rattle.std.proofs.Common.{◌≡◌, length}
use Rattle.rtlsim_refusals.specs.Places.{line_within}
use Rattle.rtlsim_refusals.proofs.place.line_before.Given as goal

abbrev pub invariant-loop-bytes : goal.invariant-loop-bytes
invariant-loop-bytes l = line_within l.line l.bytes ≡ line_within l.before l.before

abbrev pub decreases-loop-bytes : goal.decreases-loop-bytes
decreases-loop-bytes l = length l.bytes
