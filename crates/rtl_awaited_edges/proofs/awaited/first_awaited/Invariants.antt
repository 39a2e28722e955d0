use Rattle.std.proofs.Common.{◌≡◌, ◌<◌, ◌≤◌, ℕ, true, false, length, get_or, take, IsSome}
use Rattle.rtl_net.specs.Core.{core}
use Rattle.rtl_awaited_edges.specs.Awaiting.{awaited_edge, first_edge}
use Rattle.rtl_awaited_edges.proofs.awaited.first_awaited.Given as goal

abbrev pub invariant-loop-process : goal.invariant-loop-process
invariant-loop-process l = record {
  so_many : length l.await_it.items ≡ l.process;
  within : l.process ≤ length l.edges.items;
  first : l.awaited ≡ first_edge (take l.process (core l.net).processes);
  each : (p : ℕ) → p < l.process → get_or l.await_it.items p false ≡ true → (awaited_edge (core l.net) p ≡ l.awaited) × IsSome l.awaited;
}
