use Rattle.rtl_stim.specs.Quiet.{AreChanges}
use Rattle.rtl_stim.proofs.stimulus.Stimulus.change_times.Given as goal

-- the inputs so far
abbrev pub invariant-loop-place : goal.invariant-loop-place
invariant-loop-place l = AreChanges l.self l.clocks l.place l.from l.last l.times
