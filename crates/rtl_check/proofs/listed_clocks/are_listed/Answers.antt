use Rattle.std.proofs.Common.{◌≡◌, ℕ, List, length, true, false, sym, ap, ◌∙◌, arith, refl, Contains}
use Rattle.rtl_model.specs.simulation.Netlist as m
use Rattle.rtl_net.specs.declared.process.Process.{Process}
use Rattle.rtl_net.specs.Core.{core}
use Rattle.rtl_check.proofs.Processes.{clock_there}
use Rattle.rtl_process_kinds.proofs.Processes.{many_processes}
use Rattle.rtl_check.proofs.ListedPairs.{next_or}
use Rattle.rtl_check.proofs.listed_clocks.are_listed.Goals as goal

pub returns-then-not-lists_clock : goal.returns-then-not-lists_clock
returns-then-not-lists_clock c =
    let net = core c.args.net.now in
    let p = c.loop-process.process in
    (λ e. absurd cc, λ A. let t = (c.lists_clock.ensures (m.process net p) c.kind_at.ensures).1 (λ n edge reset is. A p n edge (reset, is)) in let h : true ≡ false = sym t ∙ c.if-not-lists_clock.true in cc)

pub loop-process-preserved : goal.loop-process-preserved
loop-process-preserved c =
    let net = core c.args.net.now in
    let p = c.loop-process.process in
    let clocks = c.args.clocks.now in
    λ q n edge l k. next_or (λ (i : ℕ). m.IsClockedBy net i n edge → Contains clocks (n, edge)) p (λ i h. c.loop-process.invariant i n edge h)
    (λ (reset, is). (c.lists_clock.ensures (m.process net p) c.kind_at.ensures).0 c.if-not-lists_clock.false n edge reset is) q l k

pub returns : goal.returns
returns c =
    let net = core c.args.net.now in
    let many = ap (λ (ps : List Process). length ps) c.processes-processes.ensures in
    let all : c.loop-process.process ≡ length net.processes = omega (arith, c.loop-process-test.false, c.loop-process.auto.process-end, many, many_processes c.args.net.now) in
    (λ t p n edge k. let there = clock_there net p n (edge, k) in c.loop-process.invariant p n edge (omega (arith, all, there)) k, λ A. refl)
