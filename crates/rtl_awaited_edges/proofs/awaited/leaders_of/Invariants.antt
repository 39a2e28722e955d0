use Rattle.std.proofs.Common.{◌≡◌, ◌<◌, ◌≤◌, ℕ, None, get_or, length}
use Rattle.rtl_awaited_edges.proofs.awaited.leaders_of.Given as goal

abbrev pub invariant-loop-process : goal.invariant-loop-process
invariant-loop-process l = record {
  so_many : length l.leaders.items ≡ l.process;
  within : l.process ≤ length l.edges;
  last : 0 < length l.edges → l.last < length l.edges;
  there : (p : ℕ) → p < l.process → get_or l.leaders.items p 0 < length l.edges;
  alike : (p : ℕ) → p < l.process → get_or l.edges (get_or l.leaders.items p 0) None ≡ get_or l.edges p None;
}
