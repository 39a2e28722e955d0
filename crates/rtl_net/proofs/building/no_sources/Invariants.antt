use Rattle.std.proofs.Common.{◌≡◌, ℕ, [], length}
use Rattle.rtl_net.specs.steps.Tables.{sources_at}
use Rattle.rtl_net.proofs.building.no_sources.Given as goal

abbrev pub invariant-loop : goal.invariant-loop
invariant-loop l = (length l.table.items ≡ l.counter) × ((n : ℕ) → sources_at l.table.items n ≡ [])
