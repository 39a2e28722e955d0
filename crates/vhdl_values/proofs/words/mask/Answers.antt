use Rattle.vhdl_values.proofs.Bits.{mask-is}
use Rattle.vhdl_values.proofs.words.mask.Goals as goal

pub returns : goal.returns
returns c = mask-is c.args.len c.requires.room
