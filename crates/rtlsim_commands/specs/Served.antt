-- What a command leaves on both outputs, and the status that it ends with.
use Rattle.std.specs.Prelude.{◌≡◌, ◌||◌, Bool, true, false, length, Result, IfErr}
use Rattle.rtlsim_commands.specs.Freed.{Frees}
use Rattle.rtlsim_commands.specs.Listed.{ChecksNetJson}
use Rattle.rtlsim_commands.specs.Opened.{OpensOr, Writeless}
use Rattle.rtlsim_command_faults.specs.Explanations.{files_of}
use Rattle.rtlsim_command_faults.specs.Places.{IsTold}
use Rattle.rtlsim_commands.specs.Told.{Done, Tells, verdict}
use Rattle.rtlsim_command_faults.specs.Refusal.{Describes}
use Rattle.rtlsim_command_faults.specs.declared.faults.Fault.{Fault}
use Rattle.rtlsim_command_faults.specs.declared.status.Status.{Status}
use Rattle.rtlsim_command_faults.specs.declared.status.Status.TheVariants as status
use Rattle.rtlsim_command_faults.specs.declared.telling.Telling.{Telling}
use Rattle.rtl_net.specs.Nets.{NetlistView}
use Rattle.byte_streams.specs.Written.{SinkState}
use Rattle.vhdl_front_rules.specs.Asking.{Asked}
use Rattle.vhdl_front_rules.specs.Designs.{IsNetOf}
use Rattle.vhdl_front_rules.specs.declared.fault.SourceFault.{SourceFault}

-- both outputs before a call and after it
pub record Outputs : Type 0 where
  pub out : SinkState
  pub out_after : SinkState
  pub err : SinkState
  pub err_after : SinkState

-- of these states
abbrev pub both : (out out_after err err_after : SinkState) → Outputs
both out out_after err err_after = record { out = out; out_after = out_after; err = err; err_after = err_after }

-- a failed write overrules each status
abbrev pub ended_by : Bool → Status → Status
ended_by true outcome = status.Failed
ended_by false outcome = outcome

abbrev pub ended : Status → (out err : SinkState) → Status
ended outcome out err = ended_by (out.failed || err.failed) outcome

-- The command answers on the source; what is told of the answer goes to the standard error, and decides the status.
-- Below it stands of which of the checker's rules the wider language frees the source.
pub record ServesOr {A : Type 0} (Refused : SourceFault → (old new : SinkState) → Type 0)
    (Does : NetlistView → Result A Fault → SinkState → SinkState → Type 0)
    (done : Done A) (telling : Telling) (asked : Asked) (outcome : Status) (o : Outputs) : Type 0 where
  pub answer : Result A Fault
  pub output : OpensOr Refused Does asked answer o.out o.out_after
  pub placed : IfErr answer (IsTold (length asked.source))
  pub said : Status
  pub answered : SinkState
  pub told : Tells done telling asked answer o.err answered said
  pub freed : Frees telling asked answered o.err_after
  pub ends : outcome ≡ ended said o.out_after o.err_after

-- nothing is written to the standard output where the source is refused
abbrev pub Serves : {A : Type 0} → (Does : NetlistView → Result A Fault → SinkState → SinkState → Type 0)
    → Done A → Telling → Asked
    → (outcome : Status) → Outputs → Type 0
Serves Does done telling asked outcome o = ServesOr Writeless Does done telling asked outcome o

-- the verdict as an object, or that of a source that is refused
abbrev pub ServesObject : Telling → Asked → (outcome : Status) → Outputs → Type 0
ServesObject telling asked outcome o =
    ServesOr (Describes (files_of telling) asked) (ChecksNetJson telling) verdict telling asked outcome o

-- ---- a step of the code: of a source that isn't refused

abbrev pub Unrefused : SourceFault → (old new : SinkState) → Type 0
Unrefused fault old new = ⊥
