use Rattle.std.proofs.Common.{◌≡◌, map, take}
use Rattle.rtl_kept_bodies.specs.Steps.{place_at}
use Rattle.rtl_kept_bodies.proofs.reset.Places.of_listed.Given as goal

abbrev pub invariant-loop-element : goal.invariant-loop-element
invariant-loop-element l = l.places.items ≡ map (place_at l.self) (take l.element-index l.elements)
