use Rattle.std.proofs.Common.{slice_index_or, sym, ◌∙◌}
use Rattle.vhdl_lexer.proofs.Walks.{end_more, open_within}
use Rattle.vhdl_lexer.proofs.extent.end_of.Goals as goal

pub loop-left-preserved : goal.loop-left-preserved
loop-left-preserved c = rw c.open_behind-opened.ensures (
  end_more _ _ _ c.loop-left.left.now c.in-len1-up.len_at_least (sym c.ends_here.ensures ∙ c.if-ends_here.false) ∙ c.loop-left.invariant.0,
  open_within _ _ c.loop-left.last (slice_index_or c.loop-left.left.now 0 _).kind c.loop-left.left.now c.in-len1-up.len_at_least c.loop-left.invariant.1,
)
