use Rattle.std.proofs.Common.{sym, ◌∙◌}
use Rattle.vhdl_hints.proofs.Folds.{near_here, near_more}
use Rattle.vhdl_hints.proofs.word.near_entity.Goals as goal

pub returns-then-begins_near : goal.returns-then-begins_near
returns-then-begins_near c =
    c.first_of.ensures
    ∙ near_here c.args.text.now c.args.word.now c.loop-left.left.now c.in-len1-up.len_at_least (sym c.begins_near.ensures ∙ c.if-begins_near.true)
    ∙ c.loop-left.invariant

pub loop-left-preserved : goal.loop-left-preserved
loop-left-preserved c =
    near_more c.args.text.now c.args.word.now c.loop-left.left.now c.in-len1-up.len_at_least (sym c.begins_near.ensures ∙ c.if-begins_near.false)
    ∙ c.loop-left.invariant
