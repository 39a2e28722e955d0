use Rattle.std.proofs.Common.{[]}
use Rattle.vhdl_expand_declarations.proofs.actuals.elements.Goals as goal
use Rattle.vhdl_expand_processes.proofs.Walks.{more_run}

pub loop-k-preserved : goal.loop-k-preserved
loop-k-preserved c =
    let e = more_run [] c.loop-k.elements.items c.args.run.first c.loop-k.k c.loop-k.invariant in
    cc (c.in_ok-push.ensures.items)
