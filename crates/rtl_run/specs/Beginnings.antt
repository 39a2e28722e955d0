-- What the runs of an accepted netlist begin with.
use Rattle.std.specs.Prelude.{◌≡◌, ℕ, List, [], None}
use Rattle.rtl_model.specs.bodies.Types.{ElementType}
use Rattle.rtl_model.specs.nets.FlatNetlist.{FlatProcess}
use Rattle.rtl_agenda.specs.Agenda.{AgendaState}
use Rattle.rtl_eval_code.specs.Codes.{CodeOf, process_of}
use Rattle.rtl_kernel.specs.kernel.Kept.{RunBodies}
use Rattle.rtl_net.specs.Core.{core}
use Rattle.rtl_net.specs.Nets.{NetlistView, flat}
use Rattle.byte_streams.specs.Written.{SinkState, IsIntact}
use Rattle.rtl_stim.specs.Ports.{HasOwnPorts, inputs_of}
use Rattle.rtl_stim.specs.Stimuli.{StimulusView, inputs_at}
use Rattle.rtl_run.specs.declared.admission.Admitted.{Admitted}
use Rattle.rtl_run.specs.Admitted.{AreMachineLevels, IsAdmitted}
use Rattle.rtl_run.specs.Synchronous.{SaysYes, IsRaceless}

-- the stimulus that the text says is admitted, with levels of the netlist, these are its processes' bodies, and nothing
-- waits
pub record IsPrepared (net : NetlistView) (text : List ℕ) (a : Admitted) (codes : List CodeOf) (agenda : AgendaState)
    : Type 0 where
  pub admitted : IsAdmitted net text a.bound a.stimulus
  pub levels : AreMachineLevels (core net) a.levels
  pub bodies : RunBodies process_of (λ (c : CodeOf). c.process.net.types) (flat net) codes
  pub waiting : agenda.waiting ≡ []
  pub last : agenda.last ≡ None

-- The checker says yes with this bound, the netlist's ports have names of their own, the stimulus is of its inputs and
-- has no race, these bodies run its processes, nothing waits, and the output is intact.
pub record IsReady {E : Type 0} (process : E → FlatProcess) (types : E → List ElementType) (net : NetlistView)
    (bodies : List E) (s : StimulusView) (bound : ℕ) (agenda : AgendaState) (out : SinkState) : Type 0 where
  pub accepted : SaysYes (core net) bound
  pub raceless : IsRaceless (core net) (inputs_at s)
  pub run : RunBodies process types (flat net) bodies
  pub ports : HasOwnPorts net
  pub inputs : s.inputs ≡ inputs_of net
  pub waiting : agenda.waiting ≡ []
  pub last : agenda.last ≡ None
  pub intact : IsIntact out
