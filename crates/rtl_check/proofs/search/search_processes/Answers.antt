use Rattle.std.proofs.Common.{◌≡◌, ◌<◌, ◌≤◌, ℕ, length, sym, ap, subst, ◌∙◌, refl, inl, arith}
use Rattle.rtl_check_levels.specs.Feeding as t
use Rattle.rtl_check_levels.specs.Levels as l
use Rattle.rtl_check_levels.specs.declared.order.LevelOrder.{LevelOrder}
use Rattle.rtl_check_levels.specs.Orders.{IsOrder}
use Rattle.rtl_check_levels.specs.Rounds.{IsRound}
use Rattle.rtl_net.specs.Core.{core}
use Rattle.rtl_process_kinds.proofs.Processes.{many_processes}
use Rattle.rtl_check.specs.declared.fault.CheckFault.TheVariants as f
use Rattle.rtl_check.proofs.Verdicts.{closed, looped, looped_once, by_processes}
use Rattle.rtl_check.proofs.search.search_processes.Goals as goal

small : {a b m n : ℕ} → a ≡ b → b ≡ m → m ≡ n → n ≤ 65536 → a < 4294967296
small e f g l = omega arith

pub order_of-requires : goal.order_of-requires
order_of-requires c =
    let table = c.in_ok-table.table.items in
    let is = c.deref.ensures.value in
    record {
      closed = subst t.IsClosed (sym is) (closed (core c.args.net.now) table c.in_ok-table.ensures);
      few = small (ap (λ (xs : t.Table). length xs) is) c.in_ok-table.ensures.each_process (many_processes c.args.net.now) c.is_elaborated.ensures.processes_limit;
    }

pub returns-in-Leveled : goal.returns-in-Leveled
returns-in-Leveled c =
    let net = core c.args.net.now in
    let table = c.in_ok-table.table.items in
    let levels = c.in-Leveled.levels in
    let are = subst (λ (xs : t.Table). l.AreLevels xs levels.levels.items levels.from.items levels.greatest) c.deref.ensures.value
    (subst (λ (o : LevelOrder). IsOrder c.deref.result.now o) c.in-Leveled.is c.in_ok-levels.ensures) in
    let no_loop = (c.tables_are_of_nets.ensures.levels net table levels.levels.items levels.from.items levels.greatest c.in_ok-table.ensures are).0 in
    record {
      no_fault = c.requires.no_fault;
      by_processes = by_processes net c.requires.outer no_loop;
      table = table;
      is_table = c.in_ok-table.ensures;
      are_levels = are;
    }

pub search_nets-requires-clause-by_nets : goal.search_nets-requires-clause-by_nets
search_nets-requires-clause-by_nets c =
    let order = subst (λ (o : LevelOrder). IsOrder c.deref.result.now o) c.in-Looped.is c.in_ok-levels.ensures in
    let loop = c.tables_are_of_nets.ensures.loops (core c.args.net.now) c.in_ok-table.table.items c.in-Looped.processes.items c.in_ok-table.ensures
    (subst (λ (xs : t.Table). IsRound xs c.in-Looped.processes.items) c.deref.ensures.value order.0) in
    (sym c.is_wide.ensures ∙ c.if-is_wide.true, inl (c.in-Looped.processes.items, loop))

pub returns-in_ok-push-in-Looped : goal.returns-in_ok-push-in-Looped
returns-in_ok-push-in-Looped c =
    let net = core c.args.net.now in
    let order = subst (λ (o : LevelOrder). IsOrder c.deref.result.now o) c.in-Looped.is c.in_ok-levels.ensures in
    let is_loop = c.tables_are_of_nets.ensures.loops net c.in_ok-table.table.items c.in-Looped.processes.items c.in_ok-table.ensures
    (subst (λ (xs : t.Table). IsRound xs c.in-Looped.processes.items) c.deref.ensures.value order.0) in
    let loop = f.Loop c.in-Looped.processes in (
      looped net c.args.faults.items c.push.new.self.items loop c.requires.none c.requires.no_fault (c.in_ok-push-in-Looped).ensures.items refl (sym c.is_wide.ensures ∙ c.if-is_wide.false, is_loop),
      looped_once c.args.faults.items c.push.new.self.items loop c.requires.none (c.in_ok-push-in-Looped).ensures.items order.1,
    )
