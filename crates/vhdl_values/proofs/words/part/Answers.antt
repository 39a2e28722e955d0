use Rattle.vhdl_values.proofs.Bits.{part-is}
use Rattle.vhdl_values.proofs.words.part.Goals as goal

pub returns : goal.returns
returns c = part-is c.args.word c.args.right _ c.args.len c.mask.ensures
