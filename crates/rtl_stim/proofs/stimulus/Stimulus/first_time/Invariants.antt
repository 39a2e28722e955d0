use Rattle.rtl_stim.specs.Quiet.{HasSearched}
use Rattle.rtl_stim.proofs.stimulus.Stimulus.first_time.Given as goal

-- the clocks so far
abbrev pub invariant-loop-clock : goal.invariant-loop-clock
invariant-loop-clock l = HasSearched l.self l.clocks l.times l.last l.clock-index l.past
