-- Of which netlists a machine runs, and what is done with an admitted netlist and stimulus.
use Rattle.std.proofs.Common.{◌≡◌, ℕ, List, Err, refl, sym, subst}
use Rattle.rtl_model.specs.simulation.Netlist.{Netlist}
use Rattle.rtl_model.specs.simulation.Accepted.{IsAccepted}
use Rattle.rtl_model.specs.simulation.NetLevels as bound
use Rattle.rtl_check.specs.declared.reporting.Report.{Report}
use Rattle.rtl_check.specs.declared.reporting.NetReport.{NetReport}
use Rattle.rtl_check.specs.Verdicts.{IsReportOf, IsNetReportOf}
use Rattle.rtl_agenda.specs.Agenda.{AgendaState}
use Rattle.rtl_eval_code.specs.Codes.{CodeOf, process_of}
use Rattle.rtl_kernel.specs.kernel.Kept.{RunBodies}
use Rattle.rtl_net.specs.Nets.{NetlistView, flat}
use Rattle.byte_streams.specs.Written.{SinkState, IsIntact}
use Rattle.rtl_stim.specs.Ports.{HasOwnPorts}
use Rattle.rtl_stim.specs.Stimuli.{StimulusView}
use Rattle.rtl_run.specs.declared.admission.Admitted.{Admitted}
use Rattle.rtl_run.specs.declared.fault.MachineFault.{MachineFault}
use Rattle.rtl_run.specs.declared.machine_levels.MachineLevels.TheVariants.{OfProcesses, OfNets}
use Rattle.rtl_run.specs.Admitted.{IsAcceptedWith, IsAdmitted, RefusesNet}
use Rattle.rtl_run.specs.Answered.{Admits, IsNetRefused}
use Rattle.rtl_run.specs.Beginnings.{IsPrepared, IsReady}

-- what the checker says yes with, by processes and by nets
pub by_processes : {net : Netlist} (r : Report) → IsAccepted net × IsReportOf net r → IsAcceptedWith net (record { clocks = r.clocks; bound = r.bound; levels = OfProcesses r.levels })
by_processes r (accepted, is) = record {
  says = record { accepted = accepted; greatest = is.greatest; is_bound = bound.ByProcesses r.levels.items is.rest.by_processes is.levels_are is.rest.bound_is };
  clocks_are = is.rest.clocks_are;
  levels_are = (is.rest.by_processes, is.greatest, is.levels_are);
}

pub by_nets : {net : Netlist} (r : NetReport) → IsAccepted net × IsNetReportOf net r → IsAcceptedWith net (record { clocks = r.clocks; bound = r.bound; levels = OfNets r.nets })
by_nets r (accepted, is) = record {
  says = record { accepted = accepted; greatest = is.greatest; is_bound = bound.ByNets r.levels.items r.nets.items is.by_nets is.levels_are is.bound_is };
  clocks_are = is.clocks_are;
  levels_are = (r.levels.items, is.greatest, is.levels_are);
}

pub admits : {net : NetlistView} {text : List ℕ} {bound : ℕ} {s : StimulusView} (Done : StimulusView → (bound : ℕ) → Type 0) → IsAdmitted net text bound s → Done s bound
    → Admits net text Done
admits {bound = bound} {s = s} Done admitted done = record { bound = bound; stimulus = s; admitted = admitted; done = done }

pub is_refused : {A : Type 0} {net : NetlistView} {text : List ℕ} {fault : MachineFault} (out : SinkState) → RefusesNet net text fault → IsNetRefused {A = A} net text out out (Err fault)
is_refused {fault = fault} out why = record { fault = fault; is = refl; why = why; nothing = refl }

-- what is prepared is ready to run
pub ready : {net : NetlistView} {text : List ℕ} {a : Admitted} {codes bodies : List CodeOf} {agenda : AgendaState} {out : SinkState} → HasOwnPorts net → IsPrepared net text a codes agenda → bodies ≡ codes
    → IsIntact out → IsReady process_of (λ (c : CodeOf). c.process.net.types) net bodies a.stimulus a.bound agenda out
ready {net = net} ports P are intact = record {
  accepted = P.admitted.accepted;
  raceless = P.admitted.raceless;
  run = subst (λ (bodies : List CodeOf). RunBodies process_of (λ (c : CodeOf). c.process.net.types) (flat net) bodies) (sym are) P.bodies;
  ports = ports;
  inputs = P.admitted.says.0;
  waiting = P.waiting;
  last = P.last;
  intact = intact;
}
