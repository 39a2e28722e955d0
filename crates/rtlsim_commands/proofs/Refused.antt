-- What a source that is refused answers.
use Rattle.std.proofs.Common.{◌≡◌, ℕ, List, Result, Ok, Err, inr, refl, ap, subst, length}
use Rattle.std.specs.Prelude.{IfErr, IsErrAnd}
use Rattle.rtl_net.specs.Nets.{NetlistView}
use Rattle.byte_streams.specs.Written.{SinkState}
use Rattle.rtlsim_command_faults.specs.Faults.{of_source}
use Rattle.rtlsim_command_faults.specs.Places.{IsTold}
use Rattle.rtlsim_command_faults.specs.declared.faults.Fault.{Fault}
use Rattle.rtlsim_command_faults.proofs.Refused.{source_told}
use Rattle.rtlsim_commands.specs.Opened.{Opens}
use Rattle.vhdl_front_rules.specs.Asking.{Asked, plainly}
use Rattle.vhdl_front_rules.specs.Designs.{IsNetOf}
use Rattle.vhdl_front_rules.specs.Faults.{LiesIn}
use Rattle.vhdl_front_rules.specs.Refusals.{Refuses}
use Rattle.vhdl_front_rules.specs.declared.fault.SourceFault.{SourceFault}

pub opens_refused : {A : Type 0} (Does : NetlistView → Result A Fault → SinkState → SinkState → Type 0) (asked : Asked) (file top : List ℕ) (answer : Result A Fault) (fault : SourceFault) (old : SinkState)
    → asked ≡ plainly file top → IsErrAnd answer (λ f. f ≡ of_source fault) → Refuses asked fault → Opens Does file top answer old old
opens_refused Does asked file top (Ok x) fault old e h r = absurd h
opens_refused Does asked file top (Err f) fault old e h r = inr (fault, ap (λ (x : Fault). Err x) h, subst (λ (a : Asked). Refuses a fault) e r, refl)

pub refused_told : {A : Type 0} (answer : Result A Fault) (fault : SourceFault) (asked : Asked) (file top : List ℕ) → asked ≡ plainly file top → IsErrAnd answer (λ f. f ≡ of_source fault)
    → LiesIn (length asked.source) fault → IfErr answer (IsTold (length file))
refused_told (Ok x) fault asked file top e h lies = absurd h
refused_told (Err f) fault asked file top e h lies = rw h (source_told (length file) fault (subst (λ (a : Asked). LiesIn (length a.source) fault) e lies))

-- the netlist of a source of whose top no generic is set
pub net_of_plain : (asked : Asked) (file top : List ℕ) (net : NetlistView) → asked ≡ plainly file top → IsNetOf asked net → IsNetOf (plainly file top) net
net_of_plain asked file top net e h = subst (λ (a : Asked). IsNetOf a net) e h
