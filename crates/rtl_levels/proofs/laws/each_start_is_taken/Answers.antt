use Rattle.rtl_levels.proofs.Edges.{each_start_is_taken}
use Rattle.rtl_levels.proofs.laws.each_start_is_taken.Goals as goal

pub returns : goal.returns
returns c = each_start_is_taken
