use Rattle.std.proofs.Common.{◌≡◌, ◌<◌, ◌/◌, ◌%◌, ℕ, length}
use Rattle.rtl_process_kinds.specs.AskedValues.{numbered}
use Rattle.rtl_calm_nets.specs.CalmPlaces.{calm_step}
use Rattle.rtl_calm_nets.specs.NetOrigins.{given_at}
use Rattle.rtl_calm_nets.specs.Reaching.{step_at}
use Rattle.rtl_calm_nets.proofs.places.calm_steps.Given as goal

abbrev pub invariant-loop-place : goal.invariant-loop-place
invariant-loop-place l = record {
  so_many : length l.steps.items ≡ l.place;
  so_far : (k : ℕ) → k < l.place → step_at l.steps.items k
      ≡ calm_step l.known.origins.now l.known.made.now l.known.starts.now (given_at l.known.origins.now (k / 4)) (numbered (k % 4));
}
