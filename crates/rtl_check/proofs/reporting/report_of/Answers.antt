use Rattle.std.proofs.Common.{◌≡◌, ◌+◌, ◌<◌, ◌≤◌, ℕ, arith, sym, subst}
use Rattle.rtl_model.specs.simulation.Report.{IsReport}
use Rattle.rtl_net.specs.Core.{core}
use Rattle.rtl_process_kinds.proofs.Processes.{many_processes}
use Rattle.rtl_check.proofs.LevelsFit.{greatest_fits}
use Rattle.rtl_check.proofs.reporting.report_of.Goals as goal

small : {g a m n : ℕ} → g ≤ a → a ≡ m → m ≡ n → n ≤ 65536 → g + 2 < 4294967296
small l e f h = omega arith

pub bound_of-bound-requires-clause-few : goal.bound_of-bound-requires-clause-few
bound_of-bound-requires-clause-few c =
    let l = c.requires.levels in
    let fits = greatest_fits l.table c.args.levels.levels.items c.args.levels.from.items c.args.levels.greatest l.are_levels in
    small fits l.is_table.each_process (many_processes c.args.net.now) c.is_elaborated.ensures.processes_limit

pub returns : goal.returns
returns c =
    let l = c.requires.levels in
    let n = core c.args.net.now in
    let v = c.args.levels in
    let edges = c.in_ok-edges.edges.items in
    let (no_loop, report) = c.tables_are_of_nets.ensures.levels n l.table v.levels.items v.from.items v.greatest l.is_table l.are_levels in
    record {
      report = subst (IsReport n v.levels.items v.from.items edges) (sym c.bound_of-bound.ensures) (report edges l.by_processes c.in_ok-edges.ensures);
      accepted = c.accepted_by_processes.ensures n (c.nets_meet_the_laws.ensures c.args.net.now c.is_elaborated.ensures).elaborated l.no_fault no_loop l.by_processes;
    }
