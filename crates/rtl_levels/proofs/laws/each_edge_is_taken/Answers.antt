use Rattle.rtl_levels.proofs.Edges.{each_edge_is_taken, each_reset_is_kept}
use Rattle.rtl_levels.proofs.laws.each_edge_is_taken.Goals as goal

pub returns-clause-edges : goal.returns-clause-edges
returns-clause-edges c = each_edge_is_taken

pub returns-clause-resets : goal.returns-clause-resets
returns-clause-resets c = each_reset_is_kept
