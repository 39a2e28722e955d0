use Rattle.std.proofs.Common.{◌≡◌, [], length}
use Rattle.vhdl_connect.specs.Held.{Holds}
use Rattle.vhdl_connect.proofs.sources.nothing.Given as goal

abbrev pub invariant-loop : goal.invariant-loop
invariant-loop l = (length l.table.items ≡ l.counter) × Holds (λ n. []) l.table.items
