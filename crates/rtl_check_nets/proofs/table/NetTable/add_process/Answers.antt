use Rattle.std.proofs.Common.{◌≡◌, ℕ, ◌<◌, true, false, List, [], length, get_or, Option, refl, sym, ap, subst, ◌∙◌, arith}
use Rattle.std.proofs.lemmas.Result.{on_ok_weaker}
use Rattle.rtl_model.specs.bodies.Body.{Stmts}
use Rattle.rtl_model.specs.bodies.Assigns.{must_assign}
use Rattle.rtl_model.specs.simulation.Netlist.{process, IsCombinational}
use Rattle.rtl_model.specs.simulation.Accepted.{IsInnerReset}
use Rattle.rtl_net.specs.declared.body.Statement.{Statement}
use Rattle.rtl_net.specs.declared.process.Driver.{Driver}
use Rattle.rtl_net.specs.declared.process.Process.{Process}
use Rattle.rtl_net.specs.Bodies.{statements_of}
use Rattle.rtl_net.specs.Core.{core}
use Rattle.rtl_body_facts.specs.Paths.{to_net}
use Rattle.rtl_looks.specs.declared.hubs.Look.{Look}
use Rattle.rtl_looks.specs.Denoting.{DriversLook}
use Rattle.rtl_process_kinds.specs.ResetBranches.{reset_branch}
use Rattle.rtl_process_kinds.proofs.Combinational.{combinational_to, combinational_from}
use Rattle.rtl_process_kinds.proofs.Processes.{many_processes, listed_as}
use Rattle.rtl_check_nets.specs.declared.table.NetTable.{NetTable}
use Rattle.rtl_check_nets.specs.Building.{AddsDrivers, AddsRegisters}
use Rattle.rtl_check_nets.proofs.Adding.{body_is, drives_there, combinational_adds, registers_are, registers_there, nothing_changes}
use Rattle.rtl_check_nets.proofs.Driving.{one_driver, passes, resets}
use Rattle.rtl_check_nets.proofs.Faults.{faultless_but_loops}
use Rattle.rtl_check_nets.proofs.table.NetTable.add_process.Goals as goal

not_both : true ≡ false → ⊥
not_both e = cc

drivers_moved : (n nets : ℕ) (looks ls : List (Option Look)) (ds es : List Driver) (t u : NetTable) → n ≡ nets → ls ≡ looks → es ≡ ds → AddsDrivers n ls 0 es t u → AddsDrivers nets looks 0 ds t u
drivers_moved n nets looks ls ds es t u e f g h = rw (sym e, sym f, sym g) h

registers_moved : (n nets reset : ℕ) (rs registers : List ℕ) (t u : NetTable) → n ≡ nets → rs ≡ registers → AddsRegisters n reset rs t u → AddsRegisters nets reset registers t u
registers_moved n nets reset rs registers t u e f h = rw (sym e, sym f) h

pub add_drivers-requires-clause-rows : goal.add_drivers-requires-clause-rows
add_drivers-requires-clause-rows c k d l =
    let net = c.args.net.now in
    let p = c.args.process in
    let x = c.index-processes-process.result in
    let wired = (c.nets_meet_the_laws.ensures net c.is_elaborated.ensures).elaborated.wiring in
    let there : p < length net.processes = (let a = c.requires.there in let b = c.requires.kinds.each_process in let e = many_processes net in omega arith) in
    let at = listed_as p c.index-processes-process.is c.processes-processes.ensures in
    let is = c.deref-then-is_combinational.ensures.value ∙ ap (λ (y : Process). y.drives.items) (sym c.index-processes-process.is) in
    let low = drives_there net p x there at wired k d (subst (λ (ds : List Driver). k < length ds) is l) in
    subst (λ (ds : List Driver). (get_or ds k d).net < length c.args.self.now.rows.items) (sym is) (let e = c.requires.built.each in omega arith)

pub add_drivers-requires-clause-counts : goal.add_drivers-requires-clause-counts
add_drivers-requires-clause-counts c k d l =
    let e = c.requires.built.each in
    let f = c.requires.built.each_count in
    let low = add_drivers-requires-clause-rows c k d l in
    omega arith

pub returns-then-is_combinational : goal.returns-then-is_combinational
returns-then-is_combinational c =
    let net = c.args.net.now in
    let p = c.args.process in
    let x = c.index-processes-process.result in
    let wired = (c.nets_meet_the_laws.ensures net c.is_elaborated.ensures).elaborated.wiring in
    let there : p < length net.processes = (let a = c.requires.there in let b = c.requires.kinds.each_process in let e = many_processes net in omega arith) in
    let at = listed_as p c.index-processes-process.is c.processes-processes.ensures in
    let second = listed_as p c.index-processes-process-then-is_combinational.is c.processes-processes.ensures in
    let body = body_is net p x there at c.index-processes-process-then-is_combinational.result c.deref.result.now second (c.deref.ensures.value ∙ ap (λ (y : Process). y.body.items) (sym c.index-processes-process-then-is_combinational.is)) in
    let looks = subst (λ (s : Stmts). DriversLook s c.args.hubs.now.hubs.items c.driver_looks.new.hubs.hubs.items c.in_ok-looks.looks.items) body c.in_ok-looks.ensures in
    let comb = combinational_to (core net) c.args.kinds.now c.requires.kinds p (sym c.is_combinational.ensures ∙ c.if-is_combinational.true) in
    let nets = c.nets-nets.ensures.count ∙ sym c.is_elaborated.ensures.in_range.each_starts in
    on_ok_weaker c.add_drivers.result
    (λ adds. combinational_adds net p x there at (one_driver (core net) wired (faultless_but_loops (core net) c.requires.no_fault).one_source) _ _ c.in_ok-looks.looks.items _ _ c.requires.built comb looks
    (drivers_moved _ _ _ _ _ _ _ _ nets c.deref-then-is_combinational-2.ensures.value (c.deref-then-is_combinational.ensures.value ∙ ap (λ (y : Process). y.drives.items) (sym c.index-processes-process.is)) adds))
    c.add_drivers.ensures

pub returns-in_default : goal.returns-in_default
returns-in_default c =
    let net = core c.args.net.now in
    passes net _ c.args.process _ c.requires.built
    (nothing_changes net c.args.process
    (λ comb. not_both (sym (c.is_combinational.ensures ∙ combinational_from net c.args.kinds.now c.requires.kinds c.args.process comb) ∙ c.if-is_combinational.false)) c.in_default.ensures)

pub add_registers-requires-clause-rows : goal.add_registers-requires-clause-rows
add_registers-requires-clause-rows c k d l =
    let net = c.args.net.now in
    let p = c.args.process in
    let x = c.index-processes-process.result in
    let wired = (c.nets_meet_the_laws.ensures net c.is_elaborated.ensures).elaborated.wiring in
    let there : p < length net.processes = (let a = c.requires.there in let b = c.requires.kinds.each_process in let e = many_processes net in omega arith) in
    let at = listed_as p c.index-processes-process.is c.processes-processes.ensures in
    let second = listed_as p c.index-processes-process-2.is c.processes-processes.ensures in
    let body = body_is net p x there at c.index-processes-process-2.result c.deref-2.result.now second (c.deref-2.ensures.value ∙ ap (λ (y : Process). y.body.items) (sym c.index-processes-process-2.is)) in
    let registers = c.in_ok-registers.registers.items in
    let are = registers_are net p x there at c.in-Some.reset registers c.deref-3.result.now (statements_of c.reset_branch-branch.result.now) c.in-Some.ensures (c.deref-3.ensures.value ∙ ap (λ (y : Process). y.drives.items) (sym c.index-processes-process.is))
    (c.reset_branch-branch.ensures ∙ ap reset_branch body) c.in_ok-registers.ensures.are in
    let low = registers_there (core net) p registers wired are k d (subst (λ (rs : List ℕ). k < length rs) c.deref-4.ensures.value l) in
    subst (λ (rs : List ℕ). get_or rs k d < length c.args.self.now.rows.items) (sym c.deref-4.ensures.value) (let e = c.requires.built.each in omega arith)

pub add_registers-requires-clause-counts : goal.add_registers-requires-clause-counts
add_registers-requires-clause-counts c k d l =
    let e = c.requires.built.each in
    let f = c.requires.built.each_count in
    let low = add_registers-requires-clause-rows c k d l in
    omega arith

pub returns : goal.returns
returns c =
    let net = c.args.net.now in
    let p = c.args.process in
    let x = c.index-processes-process.result in
    let wired = (c.nets_meet_the_laws.ensures net c.is_elaborated.ensures).elaborated.wiring in
    let there : p < length net.processes = (let a = c.requires.there in let b = c.requires.kinds.each_process in let e = many_processes net in omega arith) in
    let at = listed_as p c.index-processes-process.is c.processes-processes.ensures in
    let second = listed_as p c.index-processes-process-2.is c.processes-processes.ensures in
    let body = body_is net p x there at c.index-processes-process-2.result c.deref-2.result.now second (c.deref-2.ensures.value ∙ ap (λ (y : Process). y.body.items) (sym c.index-processes-process-2.is)) in
    let registers = c.in_ok-registers.registers.items in
    let are = registers_are net p x there at c.in-Some.reset registers c.deref-3.result.now (statements_of c.reset_branch-branch.result.now) c.in-Some.ensures (c.deref-3.ensures.value ∙ ap (λ (y : Process). y.drives.items) (sym c.index-processes-process.is))
    (c.reset_branch-branch.ensures ∙ ap reset_branch body) c.in_ok-registers.ensures.are in
    let odd = (λ (comb : IsCombinational (core net) p). not_both (sym (c.is_combinational.ensures ∙ combinational_from (core net) c.args.kinds.now c.requires.kinds p comb) ∙ c.if-is_combinational.false)) in
    let nets = c.nets-nets.ensures.count ∙ sym c.is_elaborated.ensures.in_range.each_starts in
    on_ok_weaker c.add_registers.result
    (λ adds. resets (core net) (one_driver (core net) wired (faultless_but_loops (core net) c.requires.no_fault).one_source) _ registers p c.in-Some.reset _ _ c.requires.built c.in-Some.ensures odd are
    (registers_moved _ _ _ _ _ _ _ nets c.deref-4.ensures.value adds))
    c.add_registers.ensures
