use Rattle.std.proofs.Common.{◌≡◌, ℕ, nat_eq, take}
use Rattle.std.specs.HashMap.{get}
use Rattle.rtl_latches.specs.Parts.{left_at}
use Rattle.rtl_latches.proofs.drivers.first_places.Given as goal

abbrev pub invariant-loop-one : goal.invariant-loop-one
invariant-loop-one l = (n : ℕ) → get nat_eq l.places n ≡ left_at n (take l.one-index l.left)
