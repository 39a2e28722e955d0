use Rattle.std.proofs.Common.{◌-◌}
use Rattle.rtl_stim_lines.specs.Inputs.{input_at}
use Rattle.rtl_stim_lines.specs.Times.{nets_of}
use Rattle.rtl_stim.specs.Quiet.{HasAdded}
use Rattle.rtl_stim.proofs.stimulus.Stimulus.add_changes.Given as goal

-- the times so far
abbrev pub invariant-loop-time : goal.invariant-loop-time
invariant-loop-time l = HasAdded l.self l.clocks (nets_of (input_at l.self.inputs l.place)) l.from l.now l.initial.times l.times

abbrev pub decreases-loop-time : goal.decreases-loop-time
decreases-loop-time l = l.last - l.now
