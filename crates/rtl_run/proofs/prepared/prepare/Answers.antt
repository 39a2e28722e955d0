use Rattle.std.proofs.Common.{ap}
use Rattle.rtl_agenda.specs.Agenda.{AgendaState}
use Rattle.rtl_run.specs.declared.fault.MachineFault.TheVariants.{Memory}
use Rattle.rtl_simulation.proofs.Results.{fails_with}
use Rattle.rtl_run.proofs.Codes.{codes_run}
use Rattle.rtl_run.proofs.prepared.prepare.Goals as goal

pub returns-in_err-admitted : goal.returns-in_err-admitted
returns-in_err-admitted c =
    fails_with _ _ c.from_residual.result c.in_err-admitted.field-0.0 c.from_residual.ensures.1 c.in_err-admitted.ensures.refused

pub returns-in_err-bodies : goal.returns-in_err-bodies
returns-in_err-bodies c = fails_with _ _ c.from_residual-in_err-bodies.result Memory c.from_residual-in_err-bodies.ensures.1 tt

pub returns-in_err-agenda : goal.returns-in_err-agenda
returns-in_err-agenda c = fails_with _ _ c.from_residual-in_err-agenda.result Memory c.from_residual-in_err-agenda.ensures.1 tt

pub returns : goal.returns
returns c = record {
  admitted = c.in_ok-admitted.ensures.admitted;
  levels = c.in_ok-admitted.ensures.levels;
  bodies = codes_run c.args.net.now c.in_ok-bodies.bodies.items c.in_ok-bodies.ensures;
  waiting = ap (λ (s : AgendaState). s.waiting) c.in_ok-agenda.ensures;
  last = ap (λ (s : AgendaState). s.last) c.in_ok-agenda.ensures;
}
