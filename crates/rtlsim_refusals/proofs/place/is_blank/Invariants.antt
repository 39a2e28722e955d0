use Rattle.std.proofs.Common.{◌≡◌, length}
use Rattle.rtlsim_refusals.specs.Places.{is_blank}
use Rattle.rtlsim_refusals.proofs.place.is_blank.Given as goal

abbrev pub invariant-loop-bytes : goal.invariant-loop-bytes
invariant-loop-bytes l = is_blank l.bytes ≡ is_blank l.initial.bytes

abbrev pub decreases-loop-bytes : goal.decreases-loop-bytes
decreases-loop-bytes l = length l.bytes
