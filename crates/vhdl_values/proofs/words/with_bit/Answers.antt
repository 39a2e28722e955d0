use Rattle.std.proofs.Common.{arith}
use Rattle.vhdl_values.proofs.Bits.{with_bit-is}
use Rattle.vhdl_values.proofs.words.with_bit.Goals as goal

pub returns : goal.returns
returns c = λ digit. with_bit-is c.args.word c.args.bit c.args.place (omega arith) c.requires digit
