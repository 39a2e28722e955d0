use Rattle.rtl_kept_bodies.proofs.Knowing.{needs_none, range_needs}
use Rattle.rtl_kept_bodies.proofs.constants.Known.need_run.Goals as goal

pub loop-k-init : goal.loop-k-init
loop-k-init c = needs_none c.args.self.now

pub loop-k-preserved : goal.loop-k-preserved
loop-k-preserved c = range_needs c.args.first c.loop-k.k c.loop-k.invariant c.need.ensures
