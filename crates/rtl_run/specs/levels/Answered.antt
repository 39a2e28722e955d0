-- What `run_levels_watched` answers on a netlist. It refuses what `run_watched` refuses, for the same reasons and in
-- the same order (`IsNetRefused`), and writes the trace that it writes: the same definition of the machine's trace
-- (`IsTrace`).
use Rattle.std.specs.Prelude.{◌≡◌, ℕ, ◌⊎◌, List, Result, Ok, Err}
use Rattle.rtl_net.specs.Nets.{NetlistView, SignalView}
use Rattle.byte_streams.specs.Written.{SinkState}
use Rattle.rtl_stim.specs.Stimuli.{StimulusView}
use Rattle.rtl_run.specs.declared.fault.MachineFault.{MachineFault}
use Rattle.rtl_run.specs.Traced.{TracesMoments, Leaves}
use Rattle.rtl_run.specs.Answered.{Admits, IsNetRefused}
use Rattle.rtl_run.specs.declared.level_summary.LevelSummary.{LevelSummary}

module _ (net : NetlistView) (names : List SignalView) (s : StimulusView) (bound : ℕ) where
  -- The whole trace of these signals of the machine's run went out. The summary tells how many moments there were, and
  -- the bound of the checker's report, which no moment's delta cycles pass where one simulates by events.
  pub record TracesAllMoments (old new : SinkState) (summary : LevelSummary) : Type 0 where
    pub all : TracesMoments net names s bound old new summary.moments
    pub bound_is : summary.bound ≡ bound

  abbrev pub TracesLevels : (old new : SinkState) → Result LevelSummary MachineFault → Type 0
  TracesLevels old new (Ok summary) = TracesAllMoments old new summary
  TracesLevels old new (Err fault) = Leaves net names s bound old new fault

-- Where the checker says yes with a bound and the stimulus has no race, the trace of these signals of the
-- synchronous machine's run is written. Else the refusal says why, and nothing is written.
abbrev pub RunsLevels : NetlistView → (names : List SignalView) → (text : List ℕ) → (old new : SinkState)
    → Result LevelSummary MachineFault → Type 0
RunsLevels net names text old new answer =
    Admits net text (λ s bound. TracesLevels net names s bound old new answer) ⊎ IsNetRefused net text old new answer
