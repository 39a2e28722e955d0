-- What event-driven simulation answers, from netlist and stimulus to the trace (IEEE 1076-2008, 14.7.5; IEEE 1364-2005,
-- clause 18).
use Rattle.std.specs.Prelude.{⊤, ◌≡◌, ◌≢◌, ◌⊎◌, ℕ, List, [], map, Result, Ok, Err}
use Rattle.rtl_net.specs.Core.{core}
use Rattle.rtl_check.specs.Views.{fault_view}
use Rattle.rtlsim_command_faults.specs.declared.faults.Fault.{Fault}
use Rattle.rtlsim_command_faults.specs.declared.faults.Fault.TheVariants.{Rejected, Stim, NoSettling, Memory, Output}
use Rattle.rtl_model.specs.simulation.Faults.{AreStored}
use Rattle.rtl_stim.specs.Ports.{inputs_of}
use Rattle.rtl_stim.specs.Stimuli.{StimulusView, IsRead}
use Rattle.rtl_net.specs.Nets.{NetlistView, SignalView}
use Rattle.rtl_simulation.specs.Answered.{Answers}
use Rattle.rtl_simulation.specs.declared.summary.RunFault.{RunFault}
use Rattle.rtl_simulation.specs.declared.summary.RunFault.TheVariants as run
use Rattle.rtl_simulation.specs.declared.summary.Summary.{Summary}
use Rattle.byte_streams.specs.Written.{SinkState}
use Rattle.rtl_stim_lines.specs.Reading.{schedule_of}
use Rattle.rtl_stim_lines.specs.declared.faults.StimFault.TheVariants as stim

-- the most delta cycles that a moment may take
abbrev pub most_deltas : ℕ
most_deltas = 1000

-- no process keeps a variable's value from one run to the next
abbrev pub HasNoneStored : NetlistView → Type 0
HasNoneStored net = AreStored (core net) []

-- a netlist without a stored variable passes; else all such variables are told, unless memory is refused
abbrev pub RefusesStored : NetlistView → Result (Unit {0}) Fault → Type 0
RefusesStored net (Ok passed) = HasNoneStored net
RefusesStored net (Err (Rejected faults)) = AreStored (core net) (map fault_view faults.items) × (faults.items ≢ [])
RefusesStored net (Err Memory) = ⊤
RefusesStored net (Err _) = ⊥

-- The netlist is simulated under what the text says, within so many delta cycles at each moment, and the trace of these
-- signals is written as `Answers` says: whole; up to the first moment that doesn't settle; or a beginning of it, where
-- memory is refused or the sink fails.
pub record Simulates (text : List ℕ) (names : List SignalView) (net : NetlistView)
    (answer : Result Summary RunFault) (old new : SinkState) : Type 0 where
  pub none_stored : HasNoneStored net
  pub stimulus : StimulusView
  pub said : IsRead net text (Ok stimulus)
  pub answers : Answers net names stimulus most_deltas old new answer

abbrev pub ShowsEvents : (text : List ℕ) → (names : List SignalView) → NetlistView
    → Result Summary Fault → (old new : SinkState) → Type 0
ShowsEvents text names net (Ok summary) old new = Simulates text names net (Ok summary) old new
-- all variables that are stored
ShowsEvents text names net (Err (Rejected faults)) old new =
    AreStored (core net) (map fault_view faults.items) × (faults.items ≢ []) × (new ≡ old)
ShowsEvents text names net (Err (Stim stim.NoMemory)) old new = ⊥
-- the first bad line of the stimulus, or that none says when to stop
ShowsEvents text names net (Err (Stim fault)) old new =
    HasNoneStored net × (schedule_of (inputs_of net) text ≡ Err fault) × (new ≡ old)
ShowsEvents text names net (Err (NoSettling time)) old new =
    Simulates text names net (Err (run.NoSettling time)) old new
ShowsEvents text names net (Err Output) old new = Simulates text names net (Err run.Output) old new
-- memory may be refused before the trace begins
ShowsEvents text names net (Err Memory) old new = Simulates text names net (Err run.Memory) old new ⊎ (new ≡ old)
ShowsEvents text names net (Err _) old new = ⊥

-- that of all signals
abbrev pub RunsEvents : (text : List ℕ) → NetlistView → Result Summary Fault → (old new : SinkState) → Type 0
RunsEvents text net = ShowsEvents text net.signals net
