use Rattle.std.proofs.Common.{◌∙◌}
use Rattle.vhdl_slips.specs.Forms.{context_with}
use Rattle.vhdl_slips.proofs.Folds.{found_more}
use Rattle.vhdl_slips.proofs.unread.context_of.Goals as goal

pub loop-tokens-preserved : goal.loop-tokens-preserved
loop-tokens-preserved c = rw c.context_behind-context.ensures (
    found_more context_with c.loop-tokens.context _ c.loop-tokens.tokens.now c.in-len1-up.len_at_least ∙ c.loop-tokens.invariant
    )
