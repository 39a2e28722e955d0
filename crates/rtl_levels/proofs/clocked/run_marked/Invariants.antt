use Rattle.std.proofs.Common.{◌≡◌, ℕ, false, get_or, length}
use Rattle.rtl_kernel.specs.wakes.Woken.{wakers_of}
use Rattle.rtl_net.specs.Core.{core}
use Rattle.rtl_levels.specs.Kept.{MayRun, entries_of}
use Rattle.rtl_levels.specs.Steps.{AreRunning}
use Rattle.rtl_levels.proofs.Visiting.{IsComeBy}
use Rattle.rtl_levels.proofs.clocked.run_marked.Given as goal

abbrev pub invariant-loop-changed : goal.invariant-loop-changed
invariant-loop-changed g l = record {
  may : MayRun g.E.Exec.process g.E.Exec.types g.E.Exec.most l.net l.bodies l.runs.items;
  each_process : length l.marked.items ≡ length l.initial.marked.items;
  each_ran : length l.ran.items ≡ length l.initial.ran.items;
  off : (p : ℕ) → IsComeBy (wakers_of l.schedule.clocked) l.changes l.changed-index p → get_or l.marked.items p false ≡ false;
  running : AreRunning (core l.net) l.before l.values l.initial.marked.items l.marked.items l.ran.items (entries_of l.runs.items);
}
