use Rattle.std.proofs.Common.{◌≡◌, ℕ, List, length, true, false, sym, ap, ◌∙◌, arith}
use Rattle.rtl_model.specs.simulation.Netlist as m
use Rattle.rtl_net.specs.declared.process.Process.{Process}
use Rattle.rtl_net.specs.Core.{core}
use Rattle.rtl_check.proofs.Processes.{clock_there}
use Rattle.rtl_process_kinds.proofs.Processes.{many_processes}
use Rattle.rtl_check.proofs.ClockPairs.{tests_from}
use Rattle.rtl_check.proofs.ListedPairs.{next_or}
use Rattle.rtl_check.proofs.listed_clocks.is_tested.Goals as goal

pub loop-process-preserved : goal.loop-process-preserved
loop-process-preserved c =
    let net = core c.args.net.now in
    let p = c.loop-process.process in
    let edge = c.args.edge in
    next_or (λ (i : ℕ). m.IsClockedBy net i c.args.clock edge → ⊥) p c.loop-process.invariant
    (λ k. let t = tests_from net edge p c.args.clock c.kind_at.result c.kind_at.ensures k in let h : true ≡ false = sym t ∙ (sym c.tests.ensures ∙ c.if-tests.false) in cc)

pub returns : goal.returns
returns c =
    let net = core c.args.net.now in
    let many = ap (λ (ps : List Process). length ps) c.processes-processes.ensures in
    let all : c.loop-process.process ≡ length net.processes = omega (arith, c.loop-process-test.false, c.loop-process.auto.process-end, many, many_processes c.args.net.now) in
    (λ e. absurd cc, λ (p, k). let there = clock_there net p c.args.clock (c.args.edge, k) in absurd (c.loop-process.invariant p (omega (arith, all, there)) k))
