use Rattle.rtl_seen_nets.proofs.Hubs.{goes_on}
use Rattle.rtl_seen_nets.proofs.behind.lowest_of_hubs.Goals as goal

pub loop-hub-preserved : goal.loop-hub-preserved
loop-hub-preserved c =
    goes_on c.args.wanted.now c.args.hubs.now c.loop-hub.hub-index c.loop-hub.found.items c.deref.result.now c.deref-in-loop-hub.result.now c.push.new.self.items _ c.lowest_behind-left.result c.lowest_behind-right.result c.lower.result
    c.loop-hub.invariant c.loop-hub-test.true c.deref.ensures.value c.deref-in-loop-hub.ensures.value c.lowest_behind-left.ensures c.lowest_behind-right.ensures c.lower.ensures c.in_ok-push.ensures.items
