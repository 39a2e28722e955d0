use Rattle.std.proofs.Common.{inl, inr, map}
use Rattle.std.proofs.lemmas.Result.{IfOk-from_err, IfOk-weaker, IfErr-weaker}
use Rattle.rtl_net.specs.Nets.{signal_view}
use Rattle.rtl_run.specs.levels.Answered.{RunsLevels}
use Rattle.rtl_run.proofs.Admitting.{admits, is_refused, ready}
use Rattle.rtl_simulation.proofs.Results.{err_with, any_err}
use Rattle.rtl_run.proofs.by_levels.run_levels_watched.Goals as goal

pub returns : goal.returns
returns g c = record {
  runs = inl (admits _ c.in_ok-admitted.ensures.admitted c.trace.ensures.traces);
  told = IfOk-weaker c.trace.result _ _ (λ summary told. admits _ c.in_ok-admitted.ensures.admitted told) c.trace.ensures.told;
  failing = IfErr-weaker c.trace.result _ _ (λ fault first. inr (admits _ c.in_ok-admitted.ensures.admitted first)) c.trace.ensures.failing;
}

pub trace-requires : goal.trace-requires
trace-requires g c =
    let P = c.in_ok-admitted.ensures in
    record { levels = P.levels; ready = ready c.requires.ports P c.deref.ensures.value c.requires.intact }

pub returns-in_err-admitted : goal.returns-in_err-admitted
returns-in_err-admitted g c =
    let out = g.W.Sink.state c.args.out.now in
    record {
      runs = err_with (RunsLevels c.args.shown.net.now (map signal_view c.args.shown.signals.now) c.args.text.now out out) c.from_residual.result c.in_err-admitted.field-0.0 c.from_residual.ensures.1 (inr (is_refused out c.in_err-admitted.ensures));
      told = IfOk-from_err c.from_residual.result _ c.from_residual.ensures.0;
      failing = any_err _ c.from_residual.result (inl (g.met.V.Watch.nothing c.args.watch.now));
    }

pub prepare-requires : goal.prepare-requires
prepare-requires g c = c.requires.ports
