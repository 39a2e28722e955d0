use Rattle.std.proofs.Common.{sym, ◌∙◌}
use Rattle.vhdl_slips.proofs.Searches.{open_here, open_more}
use Rattle.vhdl_slips.proofs.instance.first_open.Goals as goal

pub returns-then-is_left_open : goal.returns-then-is_left_open
returns-then-is_left_open c =
    sym (open_here c.args.text.now c.args.associations.now _ c.loop-left.left.now c.in-len1-up.len_at_least (sym c.is_left_open.ensures ∙ c.if-is_left_open.true))
    ∙ c.loop-left.invariant

pub loop-left-preserved : goal.loop-left-preserved
loop-left-preserved c =
    open_more c.args.text.now c.args.associations.now c.loop-left.left.now c.in-len1-up.len_at_least (sym c.is_left_open.ensures ∙ c.if-is_left_open.false)
    ∙ c.loop-left.invariant
