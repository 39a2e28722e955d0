use Rattle.std.proofs.Common.{sym, ◌∙◌}
use Rattle.vhdl_names_further.proofs.Walks.{around_here, around_more}
use Rattle.vhdl_names_further.proofs.naming.around.Goals as goal

pub loop-others-preserved : goal.loop-others-preserved
loop-others-preserved c =
    around_more _ c.loop-others.others.now c.in-len1-up.len_at_least (sym c.is_around.ensures ∙ c.if-is_around.false) ∙ c.loop-others.invariant

pub returns-then-is_around : goal.returns-then-is_around
returns-then-is_around c = around_here _ c.loop-others.others.now (sym c.is_around.ensures ∙ c.if-is_around.true) ∙ c.loop-others.invariant
