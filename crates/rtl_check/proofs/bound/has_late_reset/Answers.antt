use Rattle.std.proofs.Common.{◌≡◌, length, arith, sym}
use Rattle.rtl_net.specs.Core.{core}
use Rattle.rtl_check.proofs.Bounds.{none_late}
use Rattle.rtl_check.proofs.bound.has_late_reset.Goals as goal

pub returns : goal.returns
returns c =
    let net = core c.args.net.now in
    let l = c.loop-process in
    let all : l.process ≡ length net.processes = omega (arith, c.loop-process-test.false, l.auto.process-end, c.requires.each_process) in
    sym (none_late net (λ p h. l.invariant p (omega (arith, all, h))))
