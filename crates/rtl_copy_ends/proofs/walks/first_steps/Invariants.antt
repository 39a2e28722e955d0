use Rattle.std.proofs.Common.{◌≡◌, ℕ, ◌<◌, length}
use Rattle.std.specs.Prelude.{slice_index}
use Rattle.rtl_copy_ends.specs.Steps.{next}
use Rattle.rtl_copy_ends.proofs.walks.first_steps.Given as goal

abbrev pub invariant-loop-place : goal.invariant-loop-place
invariant-loop-place l = record {
  many : length l.steps.items ≡ l.place;
  each : (k : ℕ) → k < l.place → slice_index l.steps.items k ≡ next l.net k;
}
