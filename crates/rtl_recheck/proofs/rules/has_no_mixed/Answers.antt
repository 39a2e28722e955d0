use Rattle.std.proofs.Common.{◌≡◌, List, length, arith, refl, ap}
use Rattle.rtl_net.specs.declared.process.Process.{Process}
use Rattle.rtl_net.specs.Core.{core}
use Rattle.rtl_process_kinds.proofs.Processes.{many_processes}
use Rattle.rtl_recheck.proofs.Keeping.{mixed_there}
use Rattle.rtl_recheck.proofs.rules.has_no_mixed.Goals as goal

pub returns : goal.returns
returns c =
    let net = core c.args.net.now in
    let many = ap (λ (ps : List Process). length ps) c.processes-processes.ensures in
    let all : c.loop-process.process ≡ length net.processes = omega (arith, c.loop-process-test.false, c.loop-process.auto.process-end, many, many_processes c.args.net.now) in
    (λ t p is. let there = mixed_there net p is in c.loop-process.invariant p (omega (arith, all, there)) is, λ A. refl)
