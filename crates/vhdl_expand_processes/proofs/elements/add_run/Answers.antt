use Rattle.vhdl_expand_processes.proofs.Walks.{more_run}
use Rattle.vhdl_expand_processes.proofs.elements.add_run.Goals as goal

pub loop-k-preserved : goal.loop-k-preserved
loop-k-preserved c =
    let e = more_run c.args.found.now.items c.loop-k.found.items c.args.run.first c.loop-k.k c.loop-k.invariant in
    cc (c.in_ok-push.ensures.items)
