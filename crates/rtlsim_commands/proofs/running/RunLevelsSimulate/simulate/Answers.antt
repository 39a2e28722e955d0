use Rattle.rtlsim_commands.specs.Sights.{machine, IsOfNet}
use Rattle.rtlsim_commands.proofs.Runs.{as_machine, watched_machine}
use Rattle.rtlsim_commands.proofs.running.RunLevelsSimulate.simulate.Goals as goal

pub returns : goal.returns
returns g c = record {
  does = watched_machine _ _ _ c.run_levels_watched.result _ _ _ (c.run_levels_watched.result, c.answered.ensures, c.run_levels_watched.ensures.runs) c.answered.ensures c.run_levels_watched.ensures.told;
  faults = as_machine (IsOfNet (machine c.args.self.now.stimulus.now) (λ stands before now at. Unit {0}) c.args.shown.net.now) c.run_levels_watched.result _ (λ faults. tt) (λ stim. tt) tt tt c.answered.ensures;
}
