use Rattle.std.proofs.Common.{sym, ◌∙◌}
use Rattle.vhdl_slips.proofs.Searches.{interface_here, interface_more}
use Rattle.vhdl_slips.proofs.interface.interface_of.Goals as goal

pub returns-then-begins_entity : goal.returns-then-begins_entity
returns-then-begins_entity c =
    c.up_to.ensures
    ∙ interface_here c.args.text.now c.args.name.now c.loop-left.left.now c.in-len1-up.len_at_least (sym c.begins_entity.ensures ∙ c.if-begins_entity.true)
    ∙ c.loop-left.invariant

pub loop-left-preserved : goal.loop-left-preserved
loop-left-preserved c =
    interface_more c.args.text.now c.args.name.now c.loop-left.left.now c.in-len1-up.len_at_least (sym c.begins_entity.ensures ∙ c.if-begins_entity.false)
    ∙ c.loop-left.invariant
