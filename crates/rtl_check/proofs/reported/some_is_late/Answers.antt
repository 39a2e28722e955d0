use Rattle.std.proofs.Common.{◌≡◌, List, length, arith, sym, ap}
use Rattle.rtl_net.specs.declared.process.Process.{Process}
use Rattle.rtl_net.specs.Core.{core}
use Rattle.rtl_process_kinds.proofs.Processes.{many_processes}
use Rattle.rtl_check.proofs.Bounds.{none_late}
use Rattle.rtl_check.proofs.reported.some_is_late.Goals as goal

pub returns : goal.returns
returns c =
    let net = core c.args.net.now in
    let l = c.loop-process in
    let many = ap (λ (ps : List Process). length ps) c.processes-processes.ensures in
    let all : l.process ≡ length net.processes = omega (arith, c.loop-process-test.false, l.auto.process-end, many, many_processes c.args.net.now) in
    sym (none_late net (λ p h. l.invariant p (omega (arith, all, h))))
