use Rattle.std.proofs.Common.{◌≡◌, ℕ, List, get_or, take, sym, subst, arith}
use Rattle.std.proofs.lemmas.List.{take_more}
use Rattle.rtl_looks.specs.declared.hubs.Look.TheVariants as l
use Rattle.rtl_check_nets.specs.Building.{AddsRegisters}
use Rattle.rtl_check_nets.proofs.Built.{no_registers, register_more, few_rows}
use Rattle.rtl_check_nets.proofs.table.NetTable.add_registers.Goals as goal

pub loop-net-init : goal.loop-net-init
loop-net-init c = no_registers c.args.nets c.args.reset c.args.self.now

pub add_driver-requires-clause-look : goal.add_driver-requires-clause-look
add_driver-requires-clause-look c = few_rows c.args.nets 0 (l.Net c.args.reset) tt (omega arith) (omega arith)

pub loop-net-preserved : goal.loop-net-preserved
loop-net-preserved c =
    let these = c.args.registers.now in
    let i = c.loop-net.net-index in
    subst (λ (xs : List ℕ). AddsRegisters c.args.nets c.args.reset xs c.args.self.now c.add_driver.new.self) (sym (take_more these i 0 c.loop-net-test.true))
    (register_more c.args.nets c.args.reset (get_or these i 0) (take i these) c.args.self.now c.loop-net.self c.add_driver.new.self c.loop-net.invariant c.in_ok-add_driver.ensures)
