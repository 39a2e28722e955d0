use Rattle.std.proofs.Common.{◌≡◌, ℕ, length}
use Rattle.std.specs.Prelude.{slice_index_or}
use Rattle.rtl_kept_bodies.specs.Steps.{placed}
use Rattle.rtl_kept_bodies.proofs.Putting.{first_ones}
use Rattle.rtl_kept_bodies.proofs.reset.put_places.Given as goal

-- the places of the first elements are put
abbrev pub invariant-loop-k : goal.invariant-loop-k
invariant-loop-k l = record {
  long : length l.listed ≡ length l.initial.listed;
  each : (e d : ℕ) → slice_index_or l.listed e d ≡ placed (first_ones l.kept l.k) (slice_index_or l.initial.listed e d) e;
}
