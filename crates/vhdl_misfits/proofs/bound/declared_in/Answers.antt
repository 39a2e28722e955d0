use Rattle.std.proofs.Common.{◌∙◌}
use Rattle.vhdl_misfits.specs.Bounds.{declared_at, declared_view}
use Rattle.vhdl_slips.proofs.Folds.{found_more}
use Rattle.vhdl_misfits.proofs.bound.declared_in.Goals as goal

pub loop-left-preserved : goal.loop-left-preserved
loop-left-preserved c = rw c.declared_at-found.ensures (
    found_more (declared_at c.args.text.now c.args.name.now c.args.in_list) (declared_view c.loop-left.found) _ c.loop-left.left.now c.in-len1-up.len_at_least
    ∙ c.loop-left.invariant
    )
