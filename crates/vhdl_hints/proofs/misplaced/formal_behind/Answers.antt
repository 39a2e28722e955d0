use Rattle.std.proofs.Common.{sym, ◌∙◌}
use Rattle.vhdl_hints.proofs.Folds.{formal_here, formal_more}
use Rattle.vhdl_hints.proofs.misplaced.formal_behind.Goals as goal

pub returns-then-is_reached : goal.returns-then-is_reached
returns-then-is_reached c =
    sym (formal_here c.loop-left.ahead _ c.loop-left.left.now c.in-len1-up.len_at_least (sym c.is_reached.ensures ∙ c.if-is_reached.true))
    ∙ c.loop-left.invariant

pub loop-left-preserved : goal.loop-left-preserved
loop-left-preserved c = rw c.still_ahead-ahead.ensures (
    formal_more c.loop-left.ahead c.loop-left.left.now c.in-len1-up.len_at_least (sym c.is_reached.ensures ∙ c.if-is_reached.false)
    ∙ c.loop-left.invariant
    )
