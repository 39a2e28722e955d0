use Rattle.std.proofs.Common.{◌++◌, take, subst}
use Rattle.rtl_net.specs.declared.process.Process.{Process}
use Rattle.vhdl_connect.specs.Held.{Holds, drivers_hold, processes_hold}
use Rattle.vhdl_connect.proofs.Holding.{next_hold, all_hold, none_hold}
use Rattle.vhdl_connect.proofs.sources.add_processes.Goals as goal

pub loop-process-init : goal.loop-process-init
loop-process-init c = λ f h. none_hold (λ (p : Process) n. drivers_hold p.drives.items n) f c.args.processes.now c.args.table.now h

pub loop-process-preserved : goal.loop-process-preserved
loop-process-preserved c = λ f h.
    let xs = c.args.processes.now in
    let i = c.loop-process.process-index in
    next_hold (λ (p : Process) n. drivers_hold p.drives.items n) f xs i c.process-item.result c.process-item.result c.add_drivers.new.table c.loop-process-test.true c.process-item.is
    (subst (λ ds. Holds (λ n. (f n ++ processes_hold (take i xs) n) ++ drivers_hold ds n) c.add_drivers.new.table) c.deref.ensures.value
    (c.in_ok-add_drivers.ensures (λ n. f n ++ processes_hold (take i xs) n) (c.loop-process.invariant f h)))

pub returns : goal.returns
returns c = λ f h. all_hold (λ (p : Process) n. drivers_hold p.drives.items n) f c.args.processes.now c.loop-process.process-index c.loop-process.table c.loop-process-test.false (c.loop-process.invariant f h)
