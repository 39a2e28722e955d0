use Rattle.std.proofs.Common.{◌≡◌, ◌<◌, ℕ, Bool, List, None, true, false, get_or, length}
use Rattle.rtl_awaited_edges.specs.Awaiting.{IsAsleep}
use Rattle.rtl_net.specs.Core.{core}
use Rattle.rtl_levels.specs.Kept.{MayRun, entries_of}
use Rattle.rtl_levels.specs.Steps.{AreRunning}
use Rattle.rtl_levels.proofs.clocked.run_each.Given as goal

abbrev pub invariant-loop-place : goal.invariant-loop-place
invariant-loop-place g l = record {
  may : MayRun g.E.Exec.process g.E.Exec.types g.E.Exec.most l.net l.bodies l.runs.items;
  each_process : length l.marked.items ≡ length l.initial.marked.items;
  each_ran : length l.ran.items ≡ length l.initial.ran.items;
  off : (k : ℕ) → k < l.place → get_or l.marked.items (get_or l.processes k 0) false ≡ false;
  fewer : (p : ℕ) → get_or l.marked.items p false ≡ true → get_or l.initial.marked.items p false ≡ true;
  running : (first : List Bool) → AreRunning (core l.net) l.before l.values first l.initial.marked.items l.initial.ran.items (entries_of l.initial.runs.items)
      → AreRunning (core l.net) l.before l.values first l.marked.items l.ran.items (entries_of l.runs.items);
  seen : l.seen.asleep ≡ true → IsAsleep (get_or l.schedule.edges.items l.seen.leader None) l.before l.values;
}
