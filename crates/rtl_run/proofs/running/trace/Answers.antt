use Rattle.std.proofs.Common.{ℕ, List, Err, map, sym, subst}
use Rattle.rtl_net.specs.Core.{core}
use Rattle.rtl_net.specs.Nets.{signal_view}
use Rattle.rtl_stim.specs.Stimuli.{inputs_at}
use Rattle.rtl_run.specs.declared.fault.MachineFault.{MachineFault}
use Rattle.rtl_run.specs.Synchronous.{IsSynchronous}
use Rattle.rtl_run.specs.Traced.{Traces}
use Rattle.rtl_run.proofs.Traces.{is_another, leaves, told_first, told_run, whole}
use Rattle.rtl_run.proofs.running.trace.Given.{Over}
use Rattle.rtl_run.proofs.running.trace.Goals as goal
use Rattle.rtl_run.proofs.running.trace.Goals.{After-run_watched}

runs : (g : Over) (c : After-run_watched g)
    → (run : ℕ → List ℕ) × IsSynchronous (core c.args.simulation.now.shown.net.now) c.args.simulation.now.limit (inputs_at c.args.simulation.now.stimulus.now) run
runs g c =
    c.accepted_nets_are_synchronous.ensures c.args.simulation.now.shown.net.now c.args.simulation.now.limit (inputs_at c.args.simulation.now.stimulus.now) c.is_elaborated.ensures
    c.requires.accepted c.requires.raceless

pub run_watched-requires : goal.run_watched-requires
run_watched-requires g c = record {
  bodies = c.requires.run;
  ports = c.requires.ports;
  inputs = c.requires.inputs;
  waiting = c.requires.waiting;
  last = c.requires.last;
  intact = c.requires.intact;
}

pub settled_fault-requires : goal.settled_fault-requires
settled_fault-requires g c =
    let run = runs g (goal.at.settled_fault-requires g c).After-run_watched in
    is_another c.args.simulation.now.shown.net.now c.args.simulation.now.stimulus.now c.args.simulation.now.limit run.0 run.1 (map signal_view c.args.simulation.now.shown.signals.now) (g.W.Sink.state c.args.out.now) (g.W.Sink.state c.run_watched.new.out)
    c.in-Err.fault c.in-Err.ensures.answers

pub returns-in-Ok-clause-traces : goal.returns-in-Ok-clause-traces
returns-in-Ok-clause-traces g c =
    let run = runs g (goal.at.returns-in-Ok-clause-traces g c).After-run_watched in
    whole c.args.simulation.now.shown.net.now c.args.simulation.now.stimulus.now c.args.simulation.now.limit run.0 run.1 (map signal_view c.args.simulation.now.shown.signals.now) (g.W.Sink.state c.args.out.now) (g.W.Sink.state c.run_watched.new.out)
    c.in-Ok.summary c.is_elaborated.ensures c.one_greatest_count.ensures c.requires.accepted c.in-Ok.ensures.answers

pub returns-in-Ok-clause-told : goal.returns-in-Ok-clause-told
returns-in-Ok-clause-told g c =
    let run = runs g (goal.at.returns-in-Ok-clause-told g c).After-run_watched in
    told_run c.args.simulation.now.shown.net.now c.args.simulation.now.stimulus.now c.args.simulation.now.limit run.0 run.1 _ c.in-Ok.ensures.told

pub returns-in-Err-clause-traces : goal.returns-in-Err-clause-traces
returns-in-Err-clause-traces g c =
    let net = c.args.simulation.now.shown.net.now in
    let names = map signal_view c.args.simulation.now.shown.signals.now in
    let s = c.args.simulation.now.stimulus.now in
    let bound = c.args.simulation.now.limit in
    let old = g.W.Sink.state c.args.out.now in
    let new = g.W.Sink.state c.run_watched.new.out in
    let run = runs g (goal.at.returns-in-Err-clause-traces g c).After-run_watched in
    subst (λ (f : MachineFault). Traces net names s bound old new (Err f)) (sym c.settled_fault.ensures) (leaves net s bound run.0 run.1 names old new c.in-Err.fault c.in-Err.ensures.answers)

pub returns-in-Err-clause-failing : goal.returns-in-Err-clause-failing
returns-in-Err-clause-failing g c =
    let run = runs g (goal.at.returns-in-Err-clause-failing g c).After-run_watched in
    told_first c.args.simulation.now.shown.net.now c.args.simulation.now.stimulus.now c.args.simulation.now.limit run.0 run.1 _ _ c.in-Err.fault c.in-Err.ensures.failing
