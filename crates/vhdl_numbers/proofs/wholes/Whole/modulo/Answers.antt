use Rattle.std.proofs.Common.{sym}
use Rattle.vhdl_numbers.proofs.Signs.{modulo_same, modulo_other, equal_signs, opposite}
use Rattle.vhdl_numbers.proofs.wholes.Whole.modulo.Goals as goal

pub returns-then-self-divisor : goal.returns-then-self-divisor
returns-then-self-divisor c =
    rw (equal_signs c.args.self.negative c.args.divisor.negative c.if-self-divisor.true)
    (sym (modulo_same c.args.divisor.negative c.args.self.size c.args.divisor.size c.requires))

pub returns-else-self-divisor : goal.returns-else-self-divisor
returns-else-self-divisor c =
    rw (opposite c.args.self.negative c.args.divisor.negative c.if-self-divisor.false)
    (sym (modulo_other c.args.self.negative c.args.self.size c.args.divisor.size c.requires))
