use Rattle.vhdl_connect_processes.proofs.Runs.{list_more}
use Rattle.vhdl_connect_processes.proofs.connection.Connection.nets_of_run.Goals as goal

pub loop-k-preserved : goal.loop-k-preserved
loop-k-preserved c =
    let e = list_more _ c.loop-k.nets.items c.args.first c.loop-k.k c.loop-k.invariant in
    cc (c.in_ok-push.ensures.ok, c.net.ensures)
