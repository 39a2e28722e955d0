use Rattle.std.proofs.Common.{◌∙◌, arith}
use Rattle.std.proofs.lemmas.List.{take_all}
use Rattle.rows_on_net.proofs.bodies.with_stamps.Goals as goal

pub returns : goal.returns
returns g c = c.loop-body.invariant ∙ take_all c.loop-body.body-index c.args.bodies.now (omega arith)
