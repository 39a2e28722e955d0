use Rattle.std.proofs.Common.{◌∙◌}
use Rattle.vhdl_slips.specs.Parts.{later}
use Rattle.vhdl_slips.proofs.Folds.{found_more}
use Rattle.vhdl_slips.proofs.part.behind_last.Goals as goal

pub loop-left-preserved : goal.loop-left-preserved
loop-left-preserved c = rw c.later-found.ensures (
    found_more (later c.args.kind) c.loop-left.found.now _ c.loop-left.left.now c.in-len1-up.len_at_least ∙ c.loop-left.invariant
    )
