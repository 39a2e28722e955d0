use Rattle.std.proofs.Common.{ℕ, ◌<◌}
use Rattle.std.specs.Prelude.{slice_index}
use Rattle.rtl_stim.specs.Quiet.{IsChangedAt}
use Rattle.rtl_stim.proofs.races.changed_input.Given as goal

abbrev pub invariant-loop-input : goal.invariant-loop-input
invariant-loop-input l = (k : ℕ) → k < l.input-index → IsChangedAt l.stimulus l.clocks l.time (slice_index l.inputs k) → ⊥
