use Rattle.std.proofs.Common.{◌≡◌, map, take}
use Rattle.rtl_calm_nets.specs.CalmPlaces.{made_step}
use Rattle.rtl_calm_nets.proofs.places.made_nets.Given as goal

abbrev pub invariant-loop-origin : goal.invariant-loop-origin
invariant-loop-origin l = l.steps.items ≡ map made_step (take l.origin-index l.origins)
