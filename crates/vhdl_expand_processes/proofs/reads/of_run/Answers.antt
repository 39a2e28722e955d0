use Rattle.vhdl_expand_processes.proofs.Walks.{more_run}
use Rattle.vhdl_expand_processes.proofs.reads.of_run.Goals as goal

pub loop-k-preserved : goal.loop-k-preserved
loop-k-preserved c =
    let e = more_run c.args.found.now.items c.loop-k.found.items c.args.first c.loop-k.k c.loop-k.invariant in
    cc (c.in_ok-push.ensures.items)
