-- What the program leaves in its writers, and the status that it ends with.
use Rattle.std.specs.Prelude.{◌≡◌, ◌⊎◌, ⊤, ℕ, List, Option, Some, None, Bool, true, false, not}
use Rattle.std.specs.Io.KnownBytes.{Keeps, append_known}
use Rattle.rtlsim_command_faults.specs.Lines.{memory_line, output_line}
use Rattle.rtlsim_commands.specs.Served.{ended_by}
use Rattle.rtlsim_command_faults.specs.declared.status.Status.{Status}
use Rattle.rtlsim_command_faults.specs.declared.status.Status.TheVariants as status
use Rattle.byte_streams.specs.Read.{ReaderState}
use Rattle.byte_streams.specs.Written.{SinkState, Goes}
use Rattle.rtlsim.specs.Inputs.{Reading}
use Rattle.rtlsim.specs.Sinks.{Sinks, sinks}
use Rattle.rtlsim.specs.Tools.{RefusesWords, ServesWords, Silently}

-- what the writers of the two streams, and that of how far a run is, hold before a call and after it, where it is known
pub record Writers : Type 0 where
  pub out : Option (List ℕ)
  pub out_after : Option (List ℕ)
  pub err : Option (List ℕ)
  pub err_after : Option (List ℕ)
  pub progress : Option (List ℕ)
  pub progress_after : Option (List ℕ)

-- of what these hold
abbrev pub writers : (out out_after err err_after progress progress_after : Option (List ℕ)) → Writers
writers out out_after err err_after progress progress_after =
    record {
      out = out;
      out_after = out_after;
      err = err;
      err_after = err_after;
      progress = progress;
      progress_after = progress_after;
    }

-- what was taken is in the writer: all of it, or where the writer failed a beginning
abbrev pub GoesOut : (is_out : Bool) → (taken held : Option (List ℕ)) → Type 0
GoesOut true taken held = Keeps taken held
GoesOut false taken held = (rest : List ℕ) × Keeps taken (append_known held rest)

-- that the last bytes of the output don't go out is told, where the output hadn't failed before
abbrev pub TellsLoss : (is_out had_failed : Bool) → (old new : SinkState) → Type 0
TellsLoss false false old new = Goes old new output_line
TellsLoss false true old new = new ≡ old
TellsLoss true had_failed old new = new ≡ old

-- a sink that has what its writer holds, and has not failed
abbrev pub fresh : Option (List ℕ) → SinkState
fresh held = record { taken = held; failed = false }

-- What two sinks have taken goes out to their writers. The status is the one that was to be, or 8 where something
-- didn't go out.
pub record Ends (outcome : Status) (out err : SinkState)
    (result : Status) (out_held err_held : Option (List ℕ)) : Type 0 where
  pub is_out : Bool
  pub told : SinkState
  pub loss : TellsLoss is_out out.failed err told
  pub is_told : Bool
  pub output : GoesOut is_out out.taken out_held
  pub errors : GoesOut is_told told.taken err_held
  pub status : result ≡ ended_by (not is_told) (ended_by (not is_out) outcome)

-- What is done with three sinks goes out to their writers, to the third at once.
pub record GoesToWriters (Does : Status → Sinks → Type 0) (result : Status) (out err progress : SinkState)
    (out_held err_held progress_held : Option (List ℕ)) : Type 0 where
  pub outcome : Status
  pub out_after : SinkState
  pub err_after : SinkState
  pub progress_after : SinkState
  pub does : Does outcome (sinks out out_after err err_after progress progress_after)
  pub shown : progress_after.taken ≡ progress_held
  pub ends : Ends outcome out_after err_after result out_held err_held

-- that memory for buffers was refused is told, and nothing else is done
pub record TellsMemory (result : Status) (err err_held : Option (List ℕ)) : Type 0 where
  pub told : SinkState
  pub tells : Goes (fresh err) told memory_line
  pub held : told.taken ≡ err_held
  pub status : result ≡ ended_by told.failed status.Memory

-- The program for its words, or for none, where they are no text or memory for them is refused; the standard input has
-- these bytes left.
abbrev pub ServesArguments : Reading → (words : Option (List (List ℕ)))
    → (left : Option (List ℕ)) → (outcome : Status) → Sinks → Type 0
ServesArguments Gives None left outcome s = Silently (RefusesWords ⊤ outcome) s
ServesArguments Gives (Some words) left outcome s =
    (after : ReaderState) × ServesWords Gives words (record { left = left; failed = false }) after outcome s

-- The program between a reader's bytes and its writers. Which words the system passes isn't known.
abbrev pub RunsArguments : Reading → (left : Option (List ℕ)) → (result : Status) → Writers → Type 0
RunsArguments Gives left result w =
    (TellsMemory result w.err w.err_after × (w.out_after ≡ w.out) × (w.progress_after ≡ w.progress))
    ⊎ ((words : Option (List (List ℕ)))
    × GoesToWriters (ServesArguments Gives words left) result (fresh w.out)
    (fresh w.err) (fresh w.progress) w.out_after w.err_after w.progress_after)
