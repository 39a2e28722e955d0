use Rattle.std.proofs.Common.{◌≡◌, ◌++◌, map}
use Rattle.std.specs.List.{range_with_len}
use Rattle.rtl_check.specs.Places.{place_in}
use Rattle.rtl_check.proofs.variables.push_places.Given as goal

abbrev pub invariant-loop-place : goal.invariant-loop-place
invariant-loop-place l = l.places.items ≡ l.initial.places.items ++ map (place_in l.variable) (range_with_len 0 l.place)
