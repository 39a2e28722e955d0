use Rattle.std.proofs.Common.{◌≡◌, length}
use Rattle.rtlsim_refusals.specs.Stimuli.{behind_lines}
use Rattle.rtlsim_refusals.proofs.stimulus.behind_lines.Given as goal

abbrev pub invariant-loop-bytes : goal.invariant-loop-bytes
invariant-loop-bytes l = behind_lines l.count l.bytes ≡ behind_lines l.initial.count l.initial.bytes

abbrev pub decreases-loop-bytes : goal.decreases-loop-bytes
decreases-loop-bytes l = length l.bytes
