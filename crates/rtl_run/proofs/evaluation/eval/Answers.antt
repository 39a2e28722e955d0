use Rattle.std.proofs.Common.{ℕ, List, Result, inl, refl, subst}
use Rattle.byte_streams.specs.Written.{Goes}
use Rattle.rtl_run.specs.declared.fault.MachineFault.{MachineFault}
use Rattle.rtl_run.specs.declared.fault.MachineFault.TheVariants.{Output}
use Rattle.rtl_run.specs.Evaluated.{port_lines, AreFirstLines, Prints}
use Rattle.rtl_run.proofs.Admitting.{admits}
use Rattle.rtl_simulation.proofs.Results.{err_with}
use Rattle.rtl_run.proofs.evaluation.eval.Given.{Over}
use Rattle.rtl_run.proofs.evaluation.eval.Goals as goal
use Rattle.rtl_run.proofs.evaluation.eval.Goals.{After-push_ports}

goes : (g : Over) (c : After-push_ports g) → Goes (g.W.Sink.state c.args.out.now) (g.W.Sink.state c.push_ports.new.out) (port_lines c.args.net.now c.in_ok-values.values.items)
goes g c =
    subst (λ (vs : List ℕ). Goes (g.W.Sink.state c.args.out.now) (g.W.Sink.state c.push_ports.new.out) (port_lines c.args.net.now vs)) c.deref.ensures.value c.push_ports.ensures

lines : (g : Over) (c : After-push_ports g)
    → AreFirstLines c.args.net.now c.in_ok-admitted.admitted.stimulus c.in_ok-admitted.admitted.bound (port_lines c.args.net.now c.in_ok-values.values.items)
lines g c = record { valuation = c.in_ok-values.values.items; first = c.in_ok-values.ensures.first; is = refl }

pub returns-in_err-finish : goal.returns-in_err-finish
returns-in_err-finish g c =
    let net = c.args.net.now in
    let a = c.in_ok-admitted.admitted in
    let at = (goal.at.returns-in_err-finish g c).After-push_ports in
    let text = port_lines net c.in_ok-values.values.items in
    inl (admits _ c.in_ok-admitted.ensures.admitted (err_with (λ (r : Result (Unit {0}) MachineFault). Prints net a.stimulus a.bound (g.W.Sink.state c.args.out.now) (g.W.Sink.state c.push_ports.new.out) r)
    c.from_residual-in_err-finish.result Output c.from_residual-in_err-finish.ensures.1 (c.in_err-finish.ensures.err, text, lines g at, (goes g at).beginning c.requires.intact)))

pub returns : goal.returns
returns g c =
    let at = (goal.at.returns g c).After-push_ports in
    let intact = c.in_ok-finish.ensures.ok in
    inl (admits _ c.in_ok-admitted.ensures.admitted (intact, port_lines c.args.net.now c.in_ok-values.values.items, lines g at, ((goes g at).whole intact).1))
