use Rattle.vhdl_tree.proofs.Narrow.{narrow_is_wide}
use Rattle.vhdl_tree.proofs.laws.narrow_files_are_wide.Goals as goal

pub returns : goal.returns
returns c = narrow_is_wide
