use Rattle.std.proofs.Common.{◌≡◌}
use Rattle.rtl_model.specs.simulation.Moments.{HasNoneToRun}
use Rattle.rows_on_net.proofs.stepping.tell_steps.Given as goal

abbrev pub invariant-loop-given : goal.invariant-loop-given
invariant-loop-given g l = record { net : l.kernel.net ≡ l.net; ready : HasNoneToRun l.kernel.state }
