-- What goes on as the machine does is its run.
use Rattle.std.proofs.Common.{suc}
use Rattle.rtl_model.proofs.simulation.Faultless.{faultless}
use Rattle.rtl_model.proofs.simulation.Levels.{numbered}
use Rattle.rtl_model.proofs.simulation.Past.{first_other, step_other}
use Rattle.rtl_model.proofs.simulation.Runs.{Machine-run, run_is}
use Rattle.rtl_levels.specs.Laws.{EachMachineGoesOnAlike}

pub each_machine_goes_on_alike : EachMachineGoesOnAlike
each_machine_goes_on_alike net E A stimulus run R =
    let F = faultless net A in
    let L = numbered net E A in
    record {
      first = λ given v agree f. Machine-run net L stimulus run R 0 v (first_other net E F given (stimulus 0) agree v f);
      step = λ m given v agree s. Machine-run net L stimulus run R (suc m) v (run m, run_is net L stimulus run R m, step_other net E F given (stimulus (suc m)) agree (run m) v s);
    }
