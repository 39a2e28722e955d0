use Rattle.std.proofs.Common.{◌≡◌, ℕ, ◌-◌, length}
use Rattle.rtl_simulation.specs.Engines.{course_of, names_of}
use Rattle.rtl_simulation.specs.Progress.{HasCome}
use Rattle.rtl_simulation.specs.Watched.{StandsFrom}
use Rattle.rtl_simulation.proofs.Stands.{HasHeard}
use Rattle.rtl_simulation.proofs.Turns.{IsLast}
use Rattle.rtl_simulation.proofs.course.Course.trace.Given as goal

-- the last moment so far, m, has settled, the watch was told of those before it, and what comes after it waits
abbrev pub invariant-loop-time : goal.invariant-loop-time
invariant-loop-time g l = record {
  m : ℕ;
  settled : g.G.Engine.is_at l.engine (course_of l.self) m;
  shown : l.progress.shown.items ≡ g.G.Engine.valuation l.engine;
  as_many : length l.progress.shown.items ≡ length l.self.shown.net.now.types;
  come : HasCome (course_of l.self) (names_of l.self) (g.W.Sink.state l.fn.out) (g.W.Sink.state l.out) l.progress;
  last : IsLast l.self.stimulus.now m l.progress.moments l.progress.now (g.A.Agenda.state l.agenda).waiting;
  heard : HasHeard (StandsFrom l.self.shown.net.now l.self.stimulus.now) (λ stands. g.V.Watch.told l.fn.watch stands l.watch) m;
}

abbrev pub decreases-loop-time : goal.decreases-loop-time
decreases-loop-time g l = l.self.stimulus.now.schedule.stop - l.progress.now
