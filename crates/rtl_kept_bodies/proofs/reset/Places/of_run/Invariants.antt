use Rattle.std.proofs.Common.{◌≡◌, map}
use Rattle.std.specs.List.{range_with_len}
use Rattle.rtl_kept_bodies.specs.Steps.{place_at}
use Rattle.rtl_kept_bodies.proofs.reset.Places.of_run.Given as goal

abbrev pub invariant-loop-k : goal.invariant-loop-k
invariant-loop-k l = l.places.items ≡ map (place_at l.self) (range_with_len l.first l.k)
