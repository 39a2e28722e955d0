use Rattle.std.proofs.Common.{◌+◌}
use Rattle.rtl_body_facts.specs.Paths.{covers}
use Rattle.rtl_body_facts.proofs.EveryPath.{goes_on, any_range_more}
use Rattle.rtl_body_facts.proofs.paths.push_run.Goals as goal

pub loop-i-preserved : goal.loop-i-preserved
loop-i-preserved c =
    let l = c.loop-i in
    λ n. goes_on _ _ _ _ _ (covers c.args.drives.now n (c.args.first + l.i)) (c.in_ok-push_target.ensures n) (l.invariant n) (any_range_more (covers c.args.drives.now n) c.args.first l.i)
