-- What `run`, `run --levels` and `eval` do on a netlist: the calls of rtl_run, with their faults as those of a command.
use Rattle.std.specs.Prelude.{◌≡◌, ℕ, List, Result, Ok, Err}
use Rattle.rtlsim_command_faults.specs.Faults.{of_machine}
use Rattle.rtlsim_command_faults.specs.declared.faults.Fault.{Fault}
use Rattle.rtl_run.specs.levels.Answered.{RunsLevels}
use Rattle.rtl_run.specs.declared.level_summary.LevelSummary.{LevelSummary}
use Rattle.rtl_run.specs.Answered.{RunsNet}
use Rattle.rtl_run.specs.Evaluated.{Evaluates}
use Rattle.rtl_run.specs.declared.fault.MachineFault.{MachineFault}
use Rattle.rtl_net.specs.Nets.{NetlistView, SignalView}
use Rattle.rtl_simulation.specs.declared.summary.Summary.{Summary}
use Rattle.byte_streams.specs.Written.{SinkState}

abbrev pub as_answer : {A : Type 0} → Result A MachineFault → Result A Fault
as_answer (Ok x) = Ok x
as_answer (Err fault) = Err (of_machine fault)

-- The trace of these signals of the synchronous machine's run under the stimulus that the text says, or why there is
-- none.
abbrev pub ShowsMachine : (text : List ℕ) → (names : List SignalView) → NetlistView
    → Result Summary Fault → (old new : SinkState) → Type 0
ShowsMachine text names net answer old new =
    (given : Result Summary MachineFault) × (answer ≡ as_answer given) × RunsNet net names text old new given

-- that of all signals
abbrev pub RunsMachine : (text : List ℕ) → NetlistView → Result Summary Fault → (old new : SinkState) → Type 0
RunsMachine text net = ShowsMachine text net.signals net

-- The same trace, by levels and without delta cycles, or why there is none.
abbrev pub ShowsLevels : (text : List ℕ) → (names : List SignalView) → NetlistView
    → Result LevelSummary Fault → (old new : SinkState) → Type 0
ShowsLevels text names net answer old new =
    (given : Result LevelSummary MachineFault) × (answer ≡ as_answer given) × RunsLevels net names text old new given

abbrev pub RunsMachineByLevels : (text : List ℕ) → NetlistView
    → Result LevelSummary Fault → (old new : SinkState) → Type 0
RunsMachineByLevels text net = ShowsLevels text net.signals net

-- The out ports' values in the machine's first valuation under NAME=VALUE words, or why there are none.
abbrev pub EvaluatesMachine : (words : List (List ℕ)) → NetlistView
    → Result (Unit {0}) Fault → (old new : SinkState) → Type 0
EvaluatesMachine words net answer old new =
    (given : Result (Unit {0}) MachineFault) × (answer ≡ as_answer given) × Evaluates net words old new given
