use Rattle.rtl_vcd.proofs.Hulls.{same_value}
use Rattle.rtl_vcd.proofs.blocks.Block.is_quiet.Goals as goal

pub returns-then-self : goal.returns-then-self
returns-then-self c same n low high =
    let b = c.args.self.now in
    same_value c.args.old.now c.args.new.now b.least b.greatest n (c.are_same.ensures same) low high
