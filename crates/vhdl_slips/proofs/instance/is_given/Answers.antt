use Rattle.std.proofs.Common.{sym, ◌∙◌}
use Rattle.vhdl_slips.proofs.Searches.{given_here, given_more}
use Rattle.vhdl_slips.proofs.instance.is_given.Goals as goal

pub returns-then-gives : goal.returns-then-gives
returns-then-gives c =
    sym (given_here c.args.text.now c.args.name.now c.loop-left.left.now c.in-len1-up.len_at_least (sym c.gives.ensures ∙ c.if-gives.true))
    ∙ c.loop-left.invariant

pub loop-left-preserved : goal.loop-left-preserved
loop-left-preserved c =
    given_more c.args.text.now c.args.name.now c.loop-left.left.now c.in-len1-up.len_at_least (sym c.gives.ensures ∙ c.if-gives.false)
    ∙ c.loop-left.invariant
