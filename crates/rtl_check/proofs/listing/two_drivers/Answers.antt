use Rattle.std.proofs.Common.{arith}
use Rattle.rtl_net.specs.Core.{core}
use Rattle.rtl_process_kinds.proofs.Processes.{ends}
use Rattle.rtl_check.proofs.Joined.{adds_first, adds_place, adds_all, no_loops}
use Rattle.rtl_check.proofs.Firsts.{net_there}
use Rattle.rtl_check.proofs.listing.two_drivers.Goals as goal

pub loop-number-init : goal.loop-number-init
loop-number-init c = adds_first (core c.args.net.now) 1 c.args.faults.now.items

pub loop-number-preserved : goal.loop-number-preserved
loop-number-preserved c =
    adds_place (core c.args.net.now) 1 c.loop-number.number c.args.faults.now.items c.loop-number.faults.items c.two_drivers_at.new.faults.items (λ e. no_loops 1 e (omega arith)) c.loop-number.invariant c.in_ok-two_drivers_at.ensures

pub returns : goal.returns
returns c = adds_all (core c.args.net.now) 1 c.loop-number.number c.args.faults.now.items c.loop-number.faults.items
    (λ x is e. let l = net_there c.args.net.now x is e in ends l c.nets-number-end.ensures.count c.loop-number-test.false) c.loop-number.invariant
