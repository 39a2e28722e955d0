use Rattle.std.proofs.Common.{◌∙◌}
use Rattle.vhdl_literals.specs.Declarations.{type_named}
use Rattle.vhdl_slips.proofs.Folds.{found_more}
use Rattle.vhdl_literals.proofs.literals.literals_at.Goals as goal

pub loop-left-preserved : goal.loop-left-preserved
loop-left-preserved c = rw c.type_named-found.ensures (
    found_more (type_named c.args.source.text.now c.mark_at-mark.result.now) c.loop-left.found.now _ c.loop-left.left.now c.in-len1-up.len_at_least ∙ c.loop-left.invariant
    )
