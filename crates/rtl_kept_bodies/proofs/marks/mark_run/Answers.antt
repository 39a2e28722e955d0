use Rattle.rtl_kept_bodies.proofs.Marking.{marked_none, run_more}
use Rattle.rtl_kept_bodies.proofs.marks.mark_run.Goals as goal

pub loop-k-init : goal.loop-k-init
loop-k-init c = marked_none c.args.marks.now

pub loop-k-preserved : goal.loop-k-preserved
loop-k-preserved c = run_more c.args.first c.loop-k.k _ _ _ c.loop-k.invariant c.mark.ensures
