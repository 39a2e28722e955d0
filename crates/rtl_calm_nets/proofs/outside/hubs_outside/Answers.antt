use Rattle.rtl_calm_nets.proofs.Hubs.{goes_on}
use Rattle.rtl_calm_nets.proofs.outside.hubs_outside.Goals as goal

pub loop-hub-preserved : goal.loop-hub-preserved
loop-hub-preserved c =
    goes_on c.args.outside.now c.args.hubs.now c.loop-hub.hub-index c.loop-hub.marks.items c.push.new.self.items c.deref.result.now _ c.hub_is_outside.result c.loop-hub.invariant c.loop-hub-test.true
    c.deref.ensures.value c.hub_is_outside.ensures c.in_ok-push.ensures.items
