use Rattle.std.proofs.Common.{ℕ, List, Err, map, refl, sym, subst}
use Rattle.std.proofs.lemmas.Result.{IfOk-from_err}
use Rattle.vhdl_values.specs.declared.scalar.Nine.{Nine}
use Rattle.rtl_model.specs.simulation.Machine.{IsFirst}
use Rattle.rtl_net.specs.Core.{core}
use Rattle.rtl_net.specs.Nets.{flat, signal_view}
use Rattle.rtl_kernel.specs.kernel.Simulation.{initial_inputs}
use Rattle.rtl_levels.proofs.Alike.{each_machine_goes_on_alike}
use Rattle.rtl_stim.specs.Stimuli.{inputs_at}
use Rattle.rtl_run.specs.declared.fault.MachineFault.{MachineFault}
use Rattle.rtl_run.specs.declared.fault.MachineFault.TheVariants.{Memory}
use Rattle.rtl_run.specs.levels.Answered.{TracesLevels}
use Rattle.rtl_run.specs.Synchronous.{IsSynchronous}
use Rattle.rtl_simulation.proofs.Going.{nothing_leaves}
use Rattle.rtl_simulation.proofs.Results.{err_with, any_err}
use Rattle.rtl_simulation.proofs.Stands.{told_nothing}
use Rattle.rtl_run.proofs.Traces.{is_another, leaves, told_first, told_run, traces_moments}
use Rattle.rtl_simulation.specs.declared.summary.RunFault.TheVariants as fault
use Rattle.rtl_run.proofs.levels.Turns.{first_is}
use Rattle.rtl_run.proofs.stepping.Stepping.trace.Given.{Over}
use Rattle.rtl_run.proofs.stepping.Stepping.trace.Goals as goal
use Rattle.rtl_run.proofs.stepping.Stepping.trace.Goals.{After-is_elaborated}

runs : (g : Over) (c : After-is_elaborated g) → (run : ℕ → List ℕ) × IsSynchronous (core c.args.self.now.shown.net.now) c.args.self.now.bound (inputs_at c.args.self.now.stimulus.now) run
runs g c =
    c.accepted_nets_are_synchronous.ensures c.args.self.now.shown.net.now c.args.self.now.bound (inputs_at c.args.self.now.stimulus.now) c.is_elaborated.ensures c.requires.ready.accepted
    c.requires.ready.raceless

pub first_machine-requires-clause-accepted : goal.first_machine-requires-clause-accepted
first_machine-requires-clause-accepted g c = let ready = c.requires.ready in ready.accepted.accepted

pub first_machine-requires-clause-bodies : goal.first_machine-requires-clause-bodies
first_machine-requires-clause-bodies g c = let ready = c.requires.ready in ready.run

pub trace-requires : goal.trace-requires
trace-requires g c =
    let net = c.args.self.now.shown.net.now in
    let s = c.args.self.now.stimulus.now in
    let ready = c.requires.ready in
    let is_net = c.is_elaborated.ensures in
    let run = runs g (goal.at.trace-requires g c).After-is_elaborated in
    let values = c.in_ok-machine.machine.values in
    let first = subst (λ (vs : List Nine). IsFirst (core net) (initial_inputs (flat net) vs) values) c.initial-initial.ensures c.in_ok-machine.ensures.first in
    record {
      begun = record {
        course = record { is_net = is_net; ports = ready.ports; inputs = ready.inputs };
        accepted = ready.accepted.accepted;
        raceless = ready.raceless;
        run = run.0;
        synchronous = run.1;
        net = c.in_ok-machine.ensures.net;
        values = first_is each_machine_goes_on_alike net is_net ready.accepted.accepted s ready.ports ready.inputs c.args.self.now.bound run.0 run.1 values first;
      };
      waiting = ready.waiting;
      last = ready.last;
      intact = ready.intact;
    }

pub returns-in_err-machine-clause-traces : goal.returns-in_err-machine-clause-traces
returns-in_err-machine-clause-traces g c =
    let net = c.args.self.now.shown.net.now in
    let s = c.args.self.now.stimulus.now in
    let bound = c.args.self.now.bound in
    let out = g.W.Sink.state c.args.out.now in
    let run = runs g (goal.at.returns-in_err-machine-clause-traces g c).After-is_elaborated in
    err_with (TracesLevels net (map signal_view c.args.self.now.shown.signals.now) s bound out out) c.from_residual.result Memory c.from_residual.ensures.1
    (leaves net s bound run.0 run.1 (map signal_view c.args.self.now.shown.signals.now) out out fault.Memory (nothing_leaves (record { net = net; stimulus = s; limit = bound }) (map signal_view c.args.self.now.shown.signals.now) out, c.requires.ready.intact))

pub returns-in_err-machine-clause-told : goal.returns-in_err-machine-clause-told
returns-in_err-machine-clause-told g c = IfOk-from_err c.from_residual.result _ c.from_residual.ensures.0

pub returns-in_err-machine-clause-failing : goal.returns-in_err-machine-clause-failing
returns-in_err-machine-clause-failing g c =
    let net = c.args.self.now.shown.net.now in
    let s = c.args.self.now.stimulus.now in
    let run = runs g (goal.at.returns-in_err-machine-clause-failing g c).After-is_elaborated in
    any_err _ c.from_residual.result
    (told_first net s c.args.self.now.bound run.0 run.1 _ (λ stands before now time. Unit {0}) fault.Memory (told_nothing net s _ (g.met.V.Watch.nothing c.args.watch.now)))

pub settled_fault-requires : goal.settled_fault-requires
settled_fault-requires g c =
    let run = runs g (goal.at.settled_fault-requires g c).After-is_elaborated in
    is_another c.args.self.now.shown.net.now c.args.self.now.stimulus.now c.args.self.now.bound run.0 run.1 (map signal_view c.args.self.now.shown.signals.now) (g.W.Sink.state c.args.out.now) (g.W.Sink.state c.trace.new.out) c.in-Err.fault c.in-Err.ensures.0

pub returns-in-Ok-clause-traces : goal.returns-in-Ok-clause-traces
returns-in-Ok-clause-traces g c =
    let run = runs g (goal.at.returns-in-Ok-clause-traces g c).After-is_elaborated in
    record {
      all = traces_moments c.args.self.now.shown.net.now c.args.self.now.stimulus.now c.args.self.now.bound run.0 run.1 (map signal_view c.args.self.now.shown.signals.now) (g.W.Sink.state c.args.out.now) (g.W.Sink.state c.trace.new.out) c.in-Ok.moments
          c.in-Ok.ensures.1.0;
      bound_is = refl;
    }

pub returns-in-Ok-clause-told : goal.returns-in-Ok-clause-told
returns-in-Ok-clause-told g c =
    let run = runs g (goal.at.returns-in-Ok-clause-told g c).After-is_elaborated in
    told_run c.args.self.now.shown.net.now c.args.self.now.stimulus.now c.args.self.now.bound run.0 run.1 _ c.in-Ok.ensures.1.1

pub returns-clause-traces : goal.returns-clause-traces
returns-clause-traces g c =
    let net = c.args.self.now.shown.net.now in
    let s = c.args.self.now.stimulus.now in
    let bound = c.args.self.now.bound in
    let old = g.W.Sink.state c.args.out.now in
    let new = g.W.Sink.state c.trace.new.out in
    let run = runs g (goal.at.returns-clause-traces g c).After-is_elaborated in
    subst (λ (f : MachineFault). TracesLevels net (map signal_view c.args.self.now.shown.signals.now) s bound old new (Err f)) (sym c.settled_fault.ensures) (leaves net s bound run.0 run.1 (map signal_view c.args.self.now.shown.signals.now) old new c.in-Err.fault c.in-Err.ensures.0)

pub returns-clause-failing : goal.returns-clause-failing
returns-clause-failing g c =
    let run = runs g (goal.at.returns-clause-failing g c).After-is_elaborated in
    told_first c.args.self.now.shown.net.now c.args.self.now.stimulus.now c.args.self.now.bound run.0 run.1 _ _ c.in-Err.fault c.in-Err.ensures.1
