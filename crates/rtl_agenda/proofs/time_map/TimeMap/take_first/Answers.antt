use Rattle.rtl_agenda.proofs.Maps.{in_order_popped}
use Rattle.rtl_agenda.proofs.time_map.TimeMap.take_first.Goals as goal

pub invariant_of-self : goal.invariant_of-self
invariant_of-self c = record { in_order = in_order_popped c.args.self.now.times c.pop_first.new.self c.pop_first.result c.args.self.now.in_order c.pop_first.ensures.removal c.pop_first.ensures.unchanged }
