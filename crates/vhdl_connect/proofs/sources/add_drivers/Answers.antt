use Rattle.std.proofs.Common.{◌++◌, get_or, take, refl}
use Rattle.rtl_net.specs.declared.process.Driver.{Driver}
use Rattle.vhdl_connect.specs.Held.{at_net, drivers_hold}
use Rattle.vhdl_connect.proofs.Holding.{next_hold, all_hold, none_hold}
use Rattle.vhdl_connect.proofs.sources.add_drivers.Goals as goal

pub loop-driver-init : goal.loop-driver-init
loop-driver-init c = λ f h. none_hold (λ (d : Driver) n. at_net d.net d.start n) f c.args.drives.now c.args.table.now h

pub loop-driver-preserved : goal.loop-driver-preserved
loop-driver-preserved c = λ f h.
    let xs = c.args.drives.now in
    let i = c.loop-driver.driver-index in
    let none : Driver = record { net = 0; start = 0 } in
    next_hold (λ (d : Driver) n. at_net d.net d.start n) f xs i (get_or xs i none) none c.add_value.new.table c.loop-driver-test.true refl
    (c.in_ok-add_value.ensures (λ n. f n ++ drivers_hold (take i xs) n) (c.loop-driver.invariant f h))

pub returns : goal.returns
returns c = λ f h. all_hold (λ (d : Driver) n. at_net d.net d.start n) f c.args.drives.now c.loop-driver.driver-index c.loop-driver.table c.loop-driver-test.false (c.loop-driver.invariant f h)
