use Rattle.vhdl_misfits.specs.Misfits.{crowds}
use Rattle.vhdl_misfits.proofs.told.crowded.Goals as goal

pub returns : goal.returns
unfolding crowds
returns c = c.told_in.ensures
