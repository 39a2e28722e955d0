use Rattle.vhdl_values.proofs.Bits.{beside-is}
use Rattle.vhdl_values.proofs.words.beside.Goals as goal

pub returns : goal.returns
returns c = λ left right. beside-is c.args.left c.args.right c.args.len c.requires left right
