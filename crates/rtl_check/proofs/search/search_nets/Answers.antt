use Rattle.std.proofs.Common.{subst, refl}
use Rattle.rtl_check_nets.specs.NetOrders.{IsNetOrder}
use Rattle.rtl_net.specs.Core.{core}
use Rattle.rtl_check.specs.declared.fault.CheckFault.TheVariants as f
use Rattle.rtl_check.proofs.Verdicts.{looped, looped_once}
use Rattle.rtl_check.proofs.search.search_nets.Goals as goal

pub returns-in-Leveled : goal.returns-in-Leveled
returns-in-Leveled c =
    let (no_loop, are, few) = subst (IsNetOrder (core c.args.net.now)) c.in-Leveled.is c.in_ok-levels.ensures in
    record { no_fault = c.requires.no_fault; by_nets = c.requires.by_nets; no_loop = no_loop; are_levels = are; few = few }

pub returns-in_ok-push-in-Looped : goal.returns-in_ok-push-in-Looped
returns-in_ok-push-in-Looped c =
    let order = subst (IsNetOrder (core c.args.net.now)) c.in-Looped.is c.in_ok-levels.ensures in
    let loop = f.NetLoop c.in-Looped.nets in (
      looped (core c.args.net.now) c.args.faults.items c.push.new.self.items loop c.requires.none c.requires.no_fault (c.in_ok-push-in-Looped).ensures.items refl (c.requires.by_nets.0, order.0),
      looped_once c.args.faults.items c.push.new.self.items loop c.requires.none (c.in_ok-push-in-Looped).ensures.items order.1,
    )
