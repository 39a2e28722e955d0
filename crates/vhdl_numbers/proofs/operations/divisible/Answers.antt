use Rattle.std.proofs.Common.{arith}
use Rattle.vhdl_numbers.proofs.Digits.{zero_divides_none}
use Rattle.vhdl_numbers.proofs.operations.divisible.Goals as goal

pub returns-else-divisor-gt0-clause-none : goal.returns-else-divisor-gt0-clause-none
returns-else-divisor-gt0-clause-none c =
    zero_divides_none c.args.left.now c.args.right.now c.in-Some-Some.divisor (omega arith) c.in-Some-Some.ensures'.number
