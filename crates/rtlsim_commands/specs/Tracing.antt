-- What a run writes by what is asked of its trace.
use Rattle.std.specs.Prelude.{◌≡◌, ◌⊎◌, false, List, [], map, None, Result, Ok, Err, ℕ}
use Rattle.byte_streams.specs.Written.{SinkState}
use Rattle.rtl_net.specs.Nets.{NetlistView, SignalView}
use Rattle.rtl_signal_names.specs.Chosen.{choice_of}
use Rattle.rtl_stim_lines.specs.Lines.{Word}
use Rattle.rtlsim_command_faults.specs.declared.faults.Fault.{Fault}
use Rattle.rtlsim_command_faults.specs.declared.faults.Fault.TheVariants.{Untraced, Memory}
use Rattle.rtlsim_commands.specs.declared.tracing.Choice.{Choice}
use Rattle.rtlsim_commands.specs.declared.tracing.Choice.TheVariants.{Whole, Named, Nothing}

-- all of it; that of the signals that these names choose; or none
pub data ChoiceView : Type 0 where
  whole : ChoiceView
  named : (names : List Word) → ChoiceView
  none : ChoiceView

abbrev pub choice_view : Choice → ChoiceView
choice_view Whole = whole
choice_view (Named names) = named (map (λ name. name.now) names.now)
choice_view Nothing = none

-- a sink that takes all, and keeps nothing
abbrev pub nowhere : SinkState
nowhere = record { taken = None; failed = false }

-- the trace of what was chosen; or a name that chooses nothing is told by its place, before anything is simulated
abbrev pub ShowsChosen : {A : Type 0}
    → (Shows : (names : List SignalView) → NetlistView → Result A Fault → SinkState → SinkState → Type 0)
    → Result (List SignalView) ℕ → NetlistView → Result A Fault → (old new : SinkState) → Type 0
ShowsChosen Shows (Ok names) net answer old new = Shows names net answer old new
ShowsChosen Shows (Err place) net answer old new = (answer ≡ Err (Untraced place)) × (new ≡ old)

-- what a run does that shows these signals of a netlist, by what is asked of its trace
abbrev pub Tracing : {A : Type 0} → ChoiceView
    → (Shows : (names : List SignalView) → NetlistView → Result A Fault → SinkState → SinkState → Type 0)
    → NetlistView → Result A Fault → (old new : SinkState) → Type 0
Tracing whole Shows net answer old new = Shows net.signals net answer old new
-- memory may be refused before the run
Tracing (named names) Shows net answer old new =
    ShowsChosen Shows (choice_of names net) net answer old new ⊎ ((answer ≡ Err Memory) × (new ≡ old))
-- nothing is written: the run is that of no signal, into such a sink
Tracing none Shows net answer old new = Shows [] net answer nowhere nowhere × (new ≡ old)
