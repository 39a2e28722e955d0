use Rattle.std.proofs.Common.{◌∙◌}
use Rattle.vhdl_slips.specs.Words.{read_of}
use Rattle.vhdl_slips.proofs.Folds.{found_more}
use Rattle.vhdl_slips.specs.Choices.{type_at}
use Rattle.vhdl_slips.proofs.enumeration.type_of.Goals as goal

pub loop-left-preserved : goal.loop-left-preserved
loop-left-preserved c = rw c.type_at-found.ensures (
    found_more (type_at c.args.literal.now c.args.words.text.now) (read_of c.loop-left.found) _ c.loop-left.left.now c.in-len1-up.len_at_least
    ∙ c.loop-left.invariant
    )
