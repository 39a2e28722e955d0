-- What is told of a command's answer on the standard error, and the status that the program ends with.
use Rattle.std.specs.Prelude.{◌≡◌, ◌⊎◌, ◌&&◌, not, ℕ, Bool, true, false, List, [], Option, Some, None, Result, Ok, Err}
use Rattle.rtlsim_command_faults.specs.Explanations.{files_of}
use Rattle.rtlsim_command_faults.specs.Faults.{is_of_names}
use Rattle.rtlsim_command_faults.specs.Places.{byte_of}
use Rattle.rtlsim_command_faults.specs.Told.{TellsFault, summary_line, levels_line}
use Rattle.rtlsim_command_faults.specs.declared.faults.Fault.{Fault}
use Rattle.rtlsim_command_faults.specs.declared.faults.Fault.TheVariants.{NoSettling}
use Rattle.rtlsim_command_faults.specs.declared.status.Status.{Status}
use Rattle.rtlsim_command_faults.specs.declared.status.Status.TheVariants as status
use Rattle.rtlsim_command_faults.specs.declared.telling.Telling.{Telling}
use Rattle.rtlsim_command_faults.specs.Behind.{TellsFurther, has_others}
use Rattle.rtlsim_commands.specs.Wider.{TellsWider, asks_wider, is_memory}
use Rattle.rtlsim_commands.specs.Answered.{TellsText, verdict_status}
use Rattle.rtlsim_commands.specs.Remarked.{TellsRemarks}
use Rattle.rtlsim_commands.specs.Unsettled.{TellsChanging}
use Rattle.rtl_run.specs.declared.level_summary.LevelSummary.{LevelSummary}
use Rattle.rtl_net.specs.Nets.{NetlistView}
use Rattle.rtl_simulation.specs.declared.summary.Summary.{Summary}
use Rattle.byte_streams.specs.Written.{SinkState}
use Rattle.vhdl_front_rules.specs.Asking.{Asked}
use Rattle.vhdl_front_rules.specs.Designs.{IsNetOf}

-- a fault that is told by a netlist is told by that of the source
abbrev pub HasNet : Asked → Fault → NetlistView → Type 0
HasNet asked fault net = is_of_names fault ≡ true → IsNetOf asked net

-- what is told where a command has done its work, and its status then
pub record Done (A : Type 0) : Type 0 where
  pub text : A → List ℕ
  pub status : A → Status
  -- the text of the stimulus, of a simulation by events
  pub events : Option (List ℕ)

-- Behind a first fault the others are told where explanations are asked for, and where it was told whole, as its
-- status says.
abbrev pub asks_others : (explains : Bool) → (first : Fault) → (said : Status) → Bool
asks_others explains first said = explains && has_others first && not (is_memory said)

-- else nothing
abbrev pub TellsOthers : (others : Bool) → Telling → Asked
    → (first : Fault) → (old new : SinkState) → Type 0
TellsOthers true telling asked first old new = TellsFurther telling asked first old new
TellsOthers false telling asked first old new = new ≡ old

-- of a source that is refused: how far the wider language reads it, and then the others
pub record TellsRefused (telling : Telling) (asked : Asked)
    (fault : Fault) (said : Status) (old new : SinkState) : Type 0 where
  pub widened : SinkState
  pub wider : TellsWider (asks_wider telling.explains telling.language said) (files_of telling) asked (byte_of fault)
      old widened
  pub others : TellsOthers (asks_others telling.explains fault said) telling asked fault widened new

-- Behind the fault of a source that has a netlist the nets are told that still change, where it is a moment of a
-- simulation by events that doesn't settle, and else nothing.
abbrev pub TellsNets : (events : Option (List ℕ)) → Telling
    → Asked → Fault → (old new : SinkState) → Type 0
TellsNets events telling asked fault old new =
    (net : NetlistView) × IsNetOf asked net × TellsChanging events telling.explains net fault old new

-- what is told behind a fault that was told with this status; where a moment doesn't settle, the source has a netlist
abbrev pub TellsBehind : (events : Option (List ℕ)) → Telling → Asked
    → Fault → (said : Status) → (old new : SinkState) → Type 0
TellsBehind events telling asked (NoSettling time) said old new =
    TellsNets events telling asked (NoSettling time) old new
TellsBehind events telling asked fault said old new =
    TellsNets events telling asked fault old new
    ⊎ TellsRefused telling asked fault said old new

abbrev pub Tells : {A : Type 0} → Done A → Telling → Asked
    → Result A Fault → (old new : SinkState) → (outcome : Status) → Type 0
Tells done telling asked (Ok x) old new outcome =
    (net : NetlistView) × IsNetOf asked net
    × (between : SinkState) × TellsText (done.text x) old between
    × TellsRemarks telling net between new × (outcome ≡ done.status x)
Tells done telling asked (Err fault) old new outcome =
    (net : NetlistView) × HasNet asked fault net
    × (between : SinkState) × TellsFault telling net fault old between outcome
    × TellsBehind done.events telling asked fault outcome between new

-- ---- of each command

abbrev pub quiet : Done (Unit {0})
quiet = record { text = λ x. []; status = λ x. status.Done; events = None }

abbrev pub verdict : Done Bool
verdict = record { text = λ yes. []; status = verdict_status; events = None }

abbrev pub summary : Done Summary
summary = record { text = summary_line; status = λ s. status.Done; events = None }

-- of a simulation by events under this stimulus
abbrev pub events : (text : List ℕ) → Done Summary
events text = record { text = summary_line; status = λ s. status.Done; events = Some text }

abbrev pub levels : Done LevelSummary
levels = record { text = levels_line; status = λ s. status.Done; events = None }
