use Rattle.std.proofs.Common.{◌≡◌, ℕ, List, length, sym, subst, ◌∙◌, arith}
use Rattle.rtl_net.specs.Core.{core}
use Rattle.rtl_looks.specs.declared.hubs.Hub.{Hub}
use Rattle.rtl_check_nets.specs.declared.table.NetTable.{NetTable}
use Rattle.rtl_check_nets.specs.Building.{AddsHubs}
use Rattle.rtl_check_nets.specs.Built.{IsBuilt}
use Rattle.rtl_check_nets.proofs.Whole.{is_net_table, looked_there}
use Rattle.rtl_check_nets.proofs.table.table_of.Goals as goal

hubs_moved : (n nets : ℕ) (hs hubs : List Hub) (t u : NetTable) → n ≡ nets → hs ≡ hubs → AddsHubs n hs t u → AddsHubs nets hubs t u
hubs_moved n nets hs hubs t u e f h = rw (sym e, sym f) h

pub returns : goal.returns
returns c =
    let net = c.args.net.now in
    let laws = (c.nets_meet_the_laws.ensures net c.is_elaborated.ensures).elaborated in
    let hubs = c.loop-process.hubs.hubs.items in
    let t = c.loop-process.table in
    let all : c.loop-process.process ≡ length (core net).processes = (let a = c.loop-process-test.false in let b = c.loop-process.auto.process-end in let e = c.requires.kinds.each_process in omega arith) in
    let nets = c.nets-2.ensures.count ∙ sym c.is_elaborated.ensures.in_range.each_starts in
    is_net_table (core net) hubs t c.add_hubs.new.self laws.wiring (subst (λ (p : ℕ). IsBuilt (core net) hubs p t) all c.loop-process.invariant)
    (hubs_moved _ _ _ _ _ _ nets c.deref.ensures.value c.in_ok-add_hubs.ensures) (looked_there net c.is_elaborated.ensures laws)
