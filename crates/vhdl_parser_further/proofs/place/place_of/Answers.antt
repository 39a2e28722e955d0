use Rattle.std.proofs.Common.{sym, ◌∙◌}
use Rattle.vhdl_parser_further.proofs.Walks.{place_more, bounded_more}
use Rattle.vhdl_parser_further.proofs.place.place_of.Goals as goal

pub loop-left-preserved : goal.loop-left-preserved
loop-left-preserved c = rw c.behind-place.ensures (
  place_more _ _ _ c.loop-left.left.now c.in-len1-up.len_at_least (sym c.is_from.ensures ∙ c.if-is_from.false) ∙ c.loop-left.invariant.0,
  bounded_more _ _ _ c.loop-left.left.now c.in-len1-up.len_at_least c.loop-left.invariant.1,
)
