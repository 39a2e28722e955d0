-- The sinks of a call: the output, the errors, and what shows how far a run is.
use Rattle.std.specs.Prelude.{◌≡◌, ℕ, Bool, true, false, ⊤, List}
use Rattle.rtl_progress.specs.Shown.{whole_text}
use Rattle.rtl_progress.specs.Stops.{stop_of}
use Rattle.byte_streams.specs.Written.{SinkState, IsIntact, Goes}
use Rattle.byte_streams.specs.Stands.{Stand}
use Rattle.rtlsim_commands.specs.Served.{Outputs, both}

-- each before the call and after it
pub record Sinks : Type 0 where
  pub out : SinkState
  pub out_after : SinkState
  pub err : SinkState
  pub err_after : SinkState
  pub progress : SinkState
  pub progress_after : SinkState

-- of these states
abbrev pub sinks : (out out_after err err_after progress progress_after : SinkState) → Sinks
sinks out out_after err err_after progress progress_after =
    record {
      out = out;
      out_after = out_after;
      err = err;
      err_after = err_after;
      progress = progress;
      progress_after = progress_after;
    }

-- neither output has failed
abbrev pub AreIntact : (out err : SinkState) → Type 0
AreIntact out err = IsIntact out × IsIntact err

-- those of a command
abbrev pub outputs : Sinks → Outputs
outputs s = both s.out s.out_after s.err s.err_after

-- nothing is shown
abbrev pub IsSilent : Sinks → Type 0
IsSilent s = s.progress_after ≡ s.progress

-- Where that is asked for, all is shown of the values that stood, under the stimulus of this text.
abbrev pub ShowsIf : (shows : Bool) → (stimulus : List ℕ) → Sinks → List Stand → Type 0
ShowsIf false stimulus s stands = ⊤
ShowsIf true stimulus s stands = Goes s.progress s.progress_after (whole_text (stop_of stimulus) stands)
