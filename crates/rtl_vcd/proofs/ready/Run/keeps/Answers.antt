use Rattle.std.proofs.Common.{arith}
use Rattle.rtl_vcd.proofs.Forms.{alike_slice}
use Rattle.rtl_vcd.proofs.ready.Run.keeps.Goals as goal

pub returns-clause-alike : goal.returns-clause-alike
returns-clause-alike c =
    λ e. alike_slice c.args.self.now c.args.old.now c.args.new.now (omega (arith, c.if-self-eq0.false)) (c.are_same.ensures e)
