-- What a course ends in, for the sink and for the watch.
use Rattle.std.specs.Prelude.{ℕ, List}
use Rattle.byte_streams.specs.Stands.{Stand}
use Rattle.byte_streams.specs.Written.{SinkState}
use Rattle.rtl_net.specs.Nets.{SignalView}
use Rattle.rtl_simulation.specs.declared.summary.RunFault.{RunFault}
use Rattle.rtl_simulation.specs.Answered.{Fails, WritesAll}
use Rattle.rtl_simulation.specs.Engines.{CourseView}
use Rattle.rtl_simulation.specs.Watched.{IsToldAll, WasTold}

-- all moments, of which there are so many, and the trace of these signals
abbrev pub EndsAll : CourseView → (names : List SignalView) → (old new : SinkState) → (Told : List Stand → Type 0)
    → (count : ℕ) → Type 0
EndsAll r names old new Told count =
    WritesAll r.net names r.stimulus r.limit old new count × IsToldAll r.net r.stimulus Told

-- the first of them, and then this fault: it may be the output's, behind the last one
abbrev pub EndsBefore : CourseView → (names : List SignalView) → (old new : SinkState) → (Told : List Stand → Type 0)
    → (Stuck : List Stand → (before now : List ℕ) → (time : ℕ) → Type 0) → RunFault → Type 0
EndsBefore r names old new Told Stuck fault =
    Fails r.net names r.stimulus r.limit old new fault × WasTold r.net r.stimulus r.limit Told Stuck fault
