use Rattle.std.proofs.Common.{◌≡◌, ℕ, ◌<◌, ◌≤◌, length, map, drop, Some}
use Rattle.rtl_net.specs.Nets.{signal_view}
use Rattle.rtl_net.specs.Names.{Element, element_from}
use Rattle.rtl_net.specs.steps.Tables.{owner_at}
use Rattle.rtl_net.proofs.building.owners.Given as goal

abbrev pub invariant-loop-signal : goal.invariant-loop-signal
invariant-loop-signal l =
    (l.signal ≤ length l.signals) × (length l.owners.items ≡ l.nets)
    × ((n : ℕ) (e : Element) → n < l.nets → element_from l.signal (drop l.signal (map signal_view l.signals)) n ≡ Some e → owner_at l.owners.items n e ≡ e)

abbrev pub decreases-loop-signal : goal.decreases-loop-signal
decreases-loop-signal l = l.signal
