use Rattle.std.proofs.Common.{ℕ, ◌-◌, ◌<◌, ◌≤◌}
use Rattle.rtl_stim_lines.specs.Inputs.{input_at}
use Rattle.rtl_stim_lines.specs.Times.{nets_of}
use Rattle.rtl_stim.specs.Quiet.{HasNoneHere}
use Rattle.rtl_stim.proofs.stimulus.Stimulus.race_before.Given as goal

-- the times so far have no race
abbrev pub invariant-loop-time : goal.invariant-loop-time
invariant-loop-time l = (t : ℕ) → 0 < t → t ≤ l.now → HasNoneHere l.self l.clocks (nets_of (input_at l.self.inputs l.place)) t

abbrev pub decreases-loop-time : goal.decreases-loop-time
decreases-loop-time l = l.past - l.now
