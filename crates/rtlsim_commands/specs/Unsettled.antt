-- What is told of the nets that still change where a moment of a simulation by events doesn't settle.
use Rattle.std.specs.Prelude.{◌≡◌, ◌⊎◌, ℕ, Bool, true, List, Option, Some, None}
use Rattle.rtl_net.specs.Nets.{NetlistView}
use Rattle.rtl_simulation.specs.Simulated.{changing}
use Rattle.byte_streams.specs.Written.{SinkState, Goes}
use Rattle.rtlsim_commands.specs.Sights.{OfUnsettled}
use Rattle.rtlsim_command_faults.specs.Told.{TellsFault}
use Rattle.rtlsim_command_faults.specs.declared.status.Status.{Status}
use Rattle.rtlsim_command_faults.specs.declared.telling.Telling.{Telling}
use Rattle.rtlsim_command_faults.specs.Changing.{changing_line}
use Rattle.rtlsim_command_faults.specs.Lines.{memory_line}
use Rattle.rtlsim_command_faults.specs.declared.faults.Fault.{Fault}
use Rattle.rtlsim_command_faults.specs.declared.faults.Fault.TheVariants.{NoSettling}

-- the nets of these numbers are named, or memory for their names is refused
abbrev pub Names : NetlistView → (numbers : List ℕ) → (old new : SinkState) → Type 0
Names net numbers old new = Goes old new (changing_line net numbers) ⊎ Goes old new memory_line

-- in a simulation by events under this stimulus those nets are named that the last delta cycle allowed changes
abbrev pub TellsStuck : (events : Option (List ℕ)) → (time : ℕ) → NetlistView → (old new : SinkState) → Type 0
TellsStuck (Some text) time net old new =
    OfUnsettled text time (λ stands before now at. Names net (changing before now) old new) net
TellsStuck None time net old new = new ≡ old

-- so it is below the explanation of a moment that doesn't settle
abbrev pub TellsChanging : (events : Option (List ℕ)) → (explains : Bool)
    → NetlistView → Fault → (old new : SinkState) → Type 0
TellsChanging events true net (NoSettling time) old new = TellsStuck events time net old new
TellsChanging events explains net fault old new = new ≡ old

-- ---- steps of the code

abbrev pub NamesIf : (explains : Bool) → NetlistView → (numbers : List ℕ) → Fault → (old new : SinkState) → Type 0
NamesIf true net numbers (NoSettling time) old new = Names net numbers old new
NamesIf explains net numbers fault old new = new ≡ old

-- the fault is told, and behind it the nets of these numbers
pub record TellsRun (telling : Telling) (net : NetlistView) (fault : Fault)
    (numbers : List ℕ) (old new : SinkState) (said : Status) : Type 0 where
  pub between : SinkState
  pub lines : TellsFault telling net fault old between said
  pub behind : NamesIf telling.explains net numbers fault between new
