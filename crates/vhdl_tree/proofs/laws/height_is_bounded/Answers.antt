use Rattle.vhdl_tree.proofs.Heights.{height_bounded}
use Rattle.vhdl_tree.proofs.laws.height_is_bounded.Goals as goal

pub returns : goal.returns
returns c = height_bounded
