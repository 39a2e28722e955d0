use Rattle.std.proofs.Common.{ℕ, ◌<◌}
use Rattle.rtl_stim.specs.Quiet.{IsActiveAt}
use Rattle.rtl_stim.proofs.races.active_clock.Given as goal

abbrev pub invariant-loop-clock : goal.invariant-loop-clock
invariant-loop-clock l = (k : ℕ) → k < l.clock-index → IsActiveAt l.stimulus l.clocks l.time k → ⊥
