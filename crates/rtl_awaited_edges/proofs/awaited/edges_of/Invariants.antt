use Rattle.std.proofs.Common.{◌≡◌, ◌<◌, ℕ, length, get_or, None}
use Rattle.rtl_net.specs.Core.{core}
use Rattle.rtl_awaited_edges.specs.Awaiting.{awaited_edge}
use Rattle.rtl_awaited_edges.proofs.awaited.edges_of.Given as goal

abbrev pub invariant-loop-process : goal.invariant-loop-process
invariant-loop-process l = record {
  so_many : length l.edges.items ≡ l.process-index;
  so_far : (p : ℕ) → p < l.process-index → get_or l.edges.items p None ≡ awaited_edge (core l.net) p;
}
