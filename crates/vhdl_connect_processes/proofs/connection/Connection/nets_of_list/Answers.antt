use Rattle.std.proofs.Common.{slice_index}
use Rattle.vhdl_connect_processes.proofs.Lists.{map_next, map_done}
use Rattle.vhdl_connect_processes.proofs.connection.Connection.nets_of_list.Goals as goal

pub loop-element-preserved : goal.loop-element-preserved
loop-element-preserved c =
    map_next (slice_index c.args.self.now.nets.now) _ c.args.elements.now c.loop-element.nets.items _ c.loop-element.element-index c.net.result c.loop-element-test.true c.loop-element.invariant c.net.ensures c.in_ok-push.ensures.ok

pub returns : goal.returns
returns c =
    map_done (slice_index c.args.self.now.nets.now) _ c.args.elements.now c.loop-element.nets.items c.loop-element.element-index c.loop-element-test.false c.loop-element.invariant
