use Rattle.std.proofs.Common.{refl}
use Rattle.rtl_vcd.proofs.Hulls.{both_blocks}
use Rattle.rtl_vcd.proofs.blocks.Block.with.Goals as goal

pub returns-clause-block : goal.returns-clause-block
returns-clause-block c nets names more one other = both_blocks nets names more c.args.self.now c.args.other.now _ refl c.min.ensures c.max.ensures one other
