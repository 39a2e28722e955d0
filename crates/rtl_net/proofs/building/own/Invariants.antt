use Rattle.std.proofs.Common.{◌≤◌, drop, length}
use Rattle.rtl_net.specs.Names.{place_in}
use Rattle.rtl_net.specs.steps.Tables.{Owns, element_at}
use Rattle.rtl_net.proofs.Filling.{from_place}
use Rattle.rtl_net.proofs.building.own.Given as goal

abbrev pub invariant-loop-place : goal.invariant-loop-place
invariant-loop-place l =
    (l.place ≤ length l.nets) × Owns (λ n. element_at l.signal (from_place l.place (place_in (drop l.place l.nets) n))) l.initial.owners.items l.owners.items

abbrev pub decreases-loop-place : goal.decreases-loop-place
decreases-loop-place l = l.place
