use Rattle.std.proofs.Common.{◌++◌, map, slice_index, sym, ap}
use Rattle.vhdl_connect_processes.proofs.Lists.{map_next, map_done}
use Rattle.vhdl_connect_processes.proofs.woken.nets_of.Goals as goal

pub loop-element-init : goal.loop-element-init
loop-element-init c =
    ap (λ l. l ++ map (slice_index c.args.connection.now.nets.now) c.args.elements.now) (sym c.new-found.ensures.items)

pub loop-element-preserved : goal.loop-element-preserved
loop-element-preserved c =
    map_next (slice_index c.args.connection.now.nets.now) _ c.args.elements.now c.loop-element.found.items _ c.loop-element.element-index c.net.result c.loop-element-test.true c.loop-element.invariant c.net.ensures c.in_ok-push.ensures.items

pub returns : goal.returns
returns c =
    map_done (slice_index c.args.connection.now.nets.now) _ c.args.elements.now c.loop-element.found.items c.loop-element.element-index c.loop-element-test.false c.loop-element.invariant
