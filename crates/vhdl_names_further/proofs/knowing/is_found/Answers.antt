use Rattle.std.proofs.Common.{sym, ◌∙◌}
use Rattle.vhdl_names_further.proofs.Walks.{first_within, found_here, found_more, rest_within}
use Rattle.vhdl_names_further.proofs.knowing.is_found.Goals as goal

pub found_behind-found-requires : goal.found_behind-found-requires
found_behind-found-requires c = first_within _ _ c.loop-others.others.now c.in-len1-up.len_at_least c.loop-others.invariant.1

pub loop-others-preserved : goal.loop-others-preserved
loop-others-preserved c = rw (c.found_behind-found.ensures, c.counts_behind-counts.ensures) (
  found_more _ _ _ _ _ _ _ _ c.loop-others.others.now c.in-len1-up.len_at_least (sym c.is_from.ensures ∙ c.if-is_from.false) ∙ c.loop-others.invariant.0,
  rest_within _ c.loop-others.others.now c.in-len1-up.len_at_least c.loop-others.invariant.1,
)

pub returns-then-is_from : goal.returns-then-is_from
returns-then-is_from c =
    found_here _ _ _ _ _ _ _ _ c.loop-others.others.now c.in-len1-up.len_at_least (sym c.is_from.ensures ∙ c.if-is_from.true) ∙ c.loop-others.invariant.0
