use Rattle.rtl_stim.specs.Quiet.{HasPassed}
use Rattle.rtl_stim.proofs.stimulus.Stimulus.time_by_inputs.Given as goal

-- the inputs so far
abbrev pub invariant-loop-place : goal.invariant-loop-place
invariant-loop-place l = HasPassed l.self l.clocks l.place l.past
