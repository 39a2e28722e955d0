-- What is told of a command's answer, and the status.
use Rattle.std.specs.Prelude.{◌≡◌, ℕ, Bool, true, false, List, [], ◌∷◌}
use Rattle.byte_streams.specs.Written.{SinkState, Goes}
use Rattle.rtlsim_command_faults.specs.declared.status.Status.{Status}
use Rattle.rtlsim_command_faults.specs.declared.status.Status.TheVariants as status

-- the text is told, and where there is none, nothing is done
abbrev pub TellsText : (text : List ℕ) → (old new : SinkState) → Type 0
TellsText [] old new = new ≡ old
TellsText (byte ∷ bytes) old new = Goes old new (byte ∷ bytes)

-- of a verdict
abbrev pub verdict_status : Bool → Status
verdict_status true = status.Done
verdict_status false = status.Rejected
