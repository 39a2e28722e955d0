use Rattle.std.proofs.Common.{slice_index_or, sym, ◌∙◌}
use Rattle.vhdl_lexer.proofs.Walks.{begins_more, depth_within}
use Rattle.vhdl_lexer.proofs.extent.beginning.Goals as goal

pub loop-left-preserved : goal.loop-left-preserved
loop-left-preserved c = rw (c.chosen-here.ensures, c.begins_behind.ensures, c.depth_behind-depth.ensures) (
  begins_more _ _ _ c.loop-left.here.now _ c.loop-left.left.now c.in-len1-up.len_at_least (sym c.is_from.ensures ∙ c.if-is_from.false) ∙ c.loop-left.invariant.0,
  depth_within _ _ c.loop-left.last (slice_index_or c.loop-left.left.now 0 _).kind c.loop-left.left.now c.in-len1-up.len_at_least c.loop-left.invariant.1,
)
