use Rattle.vhdl_misfits.specs.Misfits.{overlaps}
use Rattle.vhdl_misfits.proofs.told.overlapping.Goals as goal

pub returns : goal.returns
unfolding overlaps
returns c = c.told_in.ensures
