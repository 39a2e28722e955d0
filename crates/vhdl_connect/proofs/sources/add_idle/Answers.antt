use Rattle.std.proofs.Common.{◌++◌, get_or, take, refl}
use Rattle.rtl_net.specs.declared.building.IdlePort.{IdlePort}
use Rattle.vhdl_connect.specs.Held.{at_net, idle_hold}
use Rattle.vhdl_connect.proofs.Holding.{next_hold, all_hold, none_hold}
use Rattle.vhdl_connect.proofs.sources.add_idle.Goals as goal

pub loop-port-init : goal.loop-port-init
loop-port-init c = λ f h. none_hold (λ (d : IdlePort) n. at_net d.net d.start n) f c.args.idle.now c.args.table.now h

pub loop-port-preserved : goal.loop-port-preserved
loop-port-preserved c = λ f h.
    let xs = c.args.idle.now in
    let i = c.loop-port.port-index in
    let none : IdlePort = record { net = 0; start = 0 } in
    next_hold (λ (d : IdlePort) n. at_net d.net d.start n) f xs i (get_or xs i none) none c.add_value.new.table c.loop-port-test.true refl
    (c.in_ok-add_value.ensures (λ n. f n ++ idle_hold (take i xs) n) (c.loop-port.invariant f h))

pub returns : goal.returns
returns c = λ f h. all_hold (λ (d : IdlePort) n. at_net d.net d.start n) f c.args.idle.now c.loop-port.port-index c.loop-port.table c.loop-port-test.false (c.loop-port.invariant f h)
