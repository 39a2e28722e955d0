use Rattle.std.proofs.Common.{◌∙◌}
use Rattle.vhdl_slips.proofs.Folds.{found_more}
use Rattle.vhdl_places.specs.Regions.{unit_at}
use Rattle.vhdl_places.proofs.regions.last_unit.Goals as goal

pub loop-left-preserved : goal.loop-left-preserved
loop-left-preserved c = rw c.unit_at-found.ensures (
    found_more unit_at c.loop-left.found.now _ c.loop-left.left.now c.in-len1-up.len_at_least ∙ c.loop-left.invariant
    )
