use Rattle.std.proofs.Common.{sym, ◌∙◌}
use Rattle.vhdl_connect_processes.proofs.Runs.{run_more}
use Rattle.vhdl_connect_processes.proofs.connection.Connection.are_neighbours.Goals as goal

pub loop-k-preserved : goal.loop-k-preserved
loop-k-preserved c = run_more _ c.args.first c.args.net c.loop-k.k c.loop-k.invariant (sym c.net-found.ensures ∙ c.if-found-next.false)
