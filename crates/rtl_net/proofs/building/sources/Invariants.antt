use Rattle.std.proofs.Common.{◌≡◌, ℕ, ◌<◌, length, map, take}
use Rattle.rtl_model.specs.nets.FlatNetlist.{all_drivers_of}
use Rattle.rtl_net.specs.Nets.{process_view}
use Rattle.rtl_net.specs.steps.Tables.{sources_at}
use Rattle.rtl_net.proofs.building.sources.Given as goal

abbrev pub invariant-loop-number : goal.invariant-loop-number
invariant-loop-number l =
    (length l.table.items ≡ l.nets)
    × ((n : ℕ) → n < l.nets → sources_at l.table.items n ≡ all_drivers_of n 0 (take l.number (map process_view l.processes)))
