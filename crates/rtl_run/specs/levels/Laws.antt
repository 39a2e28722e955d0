-- `run_watched` and `run_levels_watched` write the same.
use Rattle.std.specs.Prelude.{◌≡◌, ℕ, ◌≤◌, List, Ok}
use Rattle.rtl_model.specs.simulation.Accepted.{IsAccepted}
use Rattle.rtl_net.specs.Nets.{NetlistView, SignalView}
use Rattle.rtl_net.specs.Elaborated.{IsNet}
use Rattle.byte_streams.specs.Written.{SinkState, TakesAll}
use Rattle.rtl_stim.specs.Stimuli.{StimulusView}
use Rattle.rtl_net.specs.Core.{core}
use Rattle.rtl_simulation.specs.declared.summary.Summary.{Summary}
use Rattle.rtl_run.specs.Traced.{IsTrace}
use Rattle.rtl_run.specs.Answered.{RunsNet}
use Rattle.rtl_run.specs.declared.level_summary.LevelSummary.{LevelSummary}
use Rattle.rtl_run.specs.levels.Answered.{RunsLevels}

-- an accepted netlist has one trace of the same signals under a stimulus
abbrev pub EachTraceIsTheOne : Type 0
EachTraceIsTheOne =
    (net : NetlistView) (names : List SignalView) (s : StimulusView) → IsNet net → IsAccepted (core net)
    → (bound other_bound : ℕ) (text other : List ℕ)
    → IsTrace net names s bound text → IsTrace net names s other_bound other → text ≡ other

-- Both sinks took one text. Both answers tell the same number of moments, and the bound that one tells is none below
-- the greatest number of delta cycles that the other tells.
pub record WriteAlike (old one other : SinkState) (summary : Summary) (levels : LevelSummary) : Type 0 where
  pub text : List ℕ
  pub one_took : TakesAll old one text
  pub other_took : TakesAll old other text
  pub count : summary.moments ≡ levels.moments
  pub within : summary.most_deltas ≤ levels.bound

-- Of one netlist, its signals that are shown and one text, `run_watched` and `run_levels_watched` into sinks that are
-- alike before: where both come to their end, they have written the same bytes.
abbrev pub EachRunIsWrittenAlike : Type 0
EachRunIsWrittenAlike =
    (net : NetlistView) (names : List SignalView) (text : List ℕ) → IsNet net
    → (old one other : SinkState) (summary : Summary) (levels : LevelSummary)
    → RunsNet net names text old one (Ok summary) → RunsLevels net names text old other (Ok levels)
    → WriteAlike old one other summary levels
