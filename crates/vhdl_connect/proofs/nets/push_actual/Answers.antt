use Rattle.std.proofs.Common.{slice_index}
use Rattle.vhdl_connect_processes.proofs.Lists.{map_next, map_done}
use Rattle.vhdl_connect.proofs.nets.push_actual.Goals as goal

pub loop-element-preserved : goal.loop-element-preserved
loop-element-preserved c =
    map_next (slice_index c.args.above.now) _ c.args.actual.now c.loop-element.nets.items _ c.loop-element.element-index c.net_at.result c.loop-element-test.true c.loop-element.invariant c.net_at.ensures c.in_ok-push.ensures.items

pub returns-clause-nets : goal.returns-clause-nets
returns-clause-nets c =
    map_done (slice_index c.args.above.now) _ c.args.actual.now c.loop-element.nets.items c.loop-element.element-index c.loop-element-test.false c.loop-element.invariant
