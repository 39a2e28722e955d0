-- Steps of the code: what is told of a source that is refused, and of an answer.
use Rattle.std.specs.Prelude.{◌≡◌, ℕ, List, Result, Ok, Err}
use Rattle.rtl_net.specs.Nets.{NetlistView}
use Rattle.byte_streams.specs.Written.{SinkState}
use Rattle.rtlsim_commands.specs.Answered.{TellsText}
use Rattle.rtlsim_commands.specs.Remarked.{TellsRemarks}
use Rattle.rtlsim_commands.specs.Told.{TellsRefused}
use Rattle.rtlsim_commands.specs.Unsettled.{TellsRun}
use Rattle.rtlsim_command_faults.specs.Told.{TellsFault}
use Rattle.rtlsim_command_faults.specs.declared.faults.Fault.{Fault}
use Rattle.rtlsim_command_faults.specs.declared.status.Status.{Status}
use Rattle.rtlsim_command_faults.specs.declared.telling.Telling.{Telling}
use Rattle.vhdl_front_rules.specs.Asking.{Asked}

-- its fault, with this status, then how far the wider language reads it, and then the others
pub record RefusesSource (telling : Telling) (asked : Asked)
    (fault : Fault) (old new : SinkState) (said : Status) : Type 0 where
  pub between : SinkState
  pub first : (net : NetlistView) → TellsFault telling net fault old between said
  pub behind : TellsRefused telling asked fault said between new

-- what is told of an answer; of a fault with the nets of these numbers
abbrev pub TellsAnswer : {A : Type 0} → (text : A → List ℕ) → (status : A → Status) → Telling → NetlistView
    → (numbers : List ℕ) → Result A Fault → (old new : SinkState) → (said : Status) → Type 0
TellsAnswer text status telling net numbers (Ok x) old new said =
    (between : SinkState) × TellsText (text x) old between × TellsRemarks telling net between new × (said ≡ status x)
TellsAnswer text status telling net numbers (Err fault) old new said =
    TellsRun telling net fault numbers old new said
