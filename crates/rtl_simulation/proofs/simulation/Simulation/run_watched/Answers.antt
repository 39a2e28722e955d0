use Rattle.std.proofs.Common.{map}
use Rattle.std.proofs.lemmas.Result.{IfOk-from_err}
use Rattle.rtl_net.specs.Nets.{signal_view}
use Rattle.rtl_simulation.specs.declared.summary.RunFault.TheVariants.{Memory}
use Rattle.rtl_simulation.specs.Answered.{Answers}
use Rattle.rtl_simulation.proofs.Going.{nothing_leaves}
use Rattle.rtl_simulation.proofs.Results.{err_with, fails_with}
use Rattle.rtl_simulation.proofs.Stands.{told_nothing}
use Rattle.rtl_simulation.proofs.simulation.Simulation.run_watched.Goals as goal

pub new-requires : goal.new-requires
new-requires g c = record { bodies = c.requires.bodies; ports = c.requires.ports; inputs = c.requires.inputs }

pub trace-requires : goal.trace-requires
trace-requires g c = record { begun = c.in_ok-engine.ensures; waiting = c.requires.waiting; last = c.requires.last; intact = c.requires.intact }

pub returns-in_err-engine-clause-answers : goal.returns-in_err-engine-clause-answers
returns-in_err-engine-clause-answers g c =
    let out = g.W.Sink.state c.args.out.now in
    let net = c.args.self.now.shown.net.now in
    let names = map signal_view c.args.self.now.shown.signals.now in
    let s = c.args.self.now.stimulus.now in
    let limit = c.args.self.now.limit in
    err_with (Answers net names s limit out out) c.from_residual.result Memory c.from_residual.ensures.1 (nothing_leaves (record { net = net; stimulus = s; limit = limit }) names out, c.requires.intact)

pub returns-in_err-engine-clause-told : goal.returns-in_err-engine-clause-told
returns-in_err-engine-clause-told g c = IfOk-from_err c.from_residual.result _ c.from_residual.ensures.0

pub returns-in_err-engine-clause-failing : goal.returns-in_err-engine-clause-failing
returns-in_err-engine-clause-failing g c =
    fails_with _ _ c.from_residual.result Memory c.from_residual.ensures.1 (told_nothing c.args.self.now.shown.net.now c.args.self.now.stimulus.now _ (g.met.V.Watch.nothing c.args.watch.now))

pub returns-in_err-moments-clause-answers : goal.returns-in_err-moments-clause-answers
returns-in_err-moments-clause-answers g c =
    err_with (Answers c.args.self.now.shown.net.now (map signal_view c.args.self.now.shown.signals.now) c.args.self.now.stimulus.now c.args.self.now.limit (g.W.Sink.state c.args.out.now) (g.W.Sink.state c.trace.new.out))
    c.from_residual-in_err-moments.result c.in_err-moments.field-0.0 c.from_residual-in_err-moments.ensures.1 c.in_err-moments.ensures.0

pub returns-in_err-moments-clause-told : goal.returns-in_err-moments-clause-told
returns-in_err-moments-clause-told g c = IfOk-from_err c.from_residual-in_err-moments.result _ c.from_residual-in_err-moments.ensures.0

pub returns-in_err-moments-clause-failing : goal.returns-in_err-moments-clause-failing
returns-in_err-moments-clause-failing g c =
    fails_with _ _ c.from_residual-in_err-moments.result c.in_err-moments.field-0.0 c.from_residual-in_err-moments.ensures.1 c.in_err-moments.ensures.1

pub returns-clause-answers : goal.returns-clause-answers
returns-clause-answers g c =
    let ends = c.in_ok-moments.ensures in
    let settled = ends.0 in
    record { all = ends.1.0; most = settled.most_is }

pub returns-clause-told : goal.returns-clause-told
returns-clause-told g c = c.in_ok-moments.ensures.1.1
