use Rattle.rtlsim_commands.specs.Sights.{nothing, IsOfNet}
use Rattle.rtlsim_commands.proofs.Runs.{as_machine}
use Rattle.rtlsim_commands.proofs.printing.EvalNetCommand.on_net.Goals as goal

pub returns : goal.returns
returns g c = record {
  does = (c.eval.result, c.answered.ensures, c.eval.ensures);
  faults = as_machine (IsOfNet nothing (λ stands before now at. Unit {0}) c.args.site.net.now) c.eval.result _ (λ faults. tt) (λ stim. tt) tt tt c.answered.ensures;
}
