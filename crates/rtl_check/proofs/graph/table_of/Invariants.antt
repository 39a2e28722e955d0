use Rattle.std.proofs.Common.{◌≡◌, ◌<◌, ℕ, length, get_or, None}
use Rattle.rtl_net.specs.Core.{core}
use Rattle.rtl_check.specs.Feeders.{IsRow}
use Rattle.rtl_check.proofs.graph.table_of.Given as goal

abbrev pub invariant-loop-process : goal.invariant-loop-process
invariant-loop-process l = record {
  so_many : length l.table.items ≡ l.process;
  so_far : (q : ℕ) → q < l.process → IsRow (core l.net) q (get_or l.table.items q None);
}
