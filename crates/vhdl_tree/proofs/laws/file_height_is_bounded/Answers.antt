use Rattle.vhdl_tree.proofs.HeightsFiles.{file_height_bounded}
use Rattle.vhdl_tree.proofs.laws.file_height_is_bounded.Goals as goal

pub returns : goal.returns
returns c = file_height_bounded
