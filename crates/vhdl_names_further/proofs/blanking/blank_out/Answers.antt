use Rattle.std.proofs.Common.{sym, ◌∙◌, arith}
use Rattle.vhdl_names_further.proofs.Blanks.{blanked_more, blanked_none, blanked_whole}
use Rattle.vhdl_names_further.proofs.blanking.blank_out.Goals as goal

pub loop-at-init : goal.loop-at-init
loop-at-init c = blanked_whole c.args.extent c.args.left.now

pub loop-at-preserved : goal.loop-at-preserved
loop-at-preserved c =
    blanked_more c.args.extent.end c.loop-at.at _ c.loop-at.left (omega arith) (omega arith) c.blank.ensures ∙ c.loop-at.invariant

pub returns : goal.returns
returns c = sym (blanked_none c.loop-at.at c.args.extent.end 0 c.loop-at.left (omega arith)) ∙ c.loop-at.invariant
