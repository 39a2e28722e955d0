use Rattle.vhdl_misfits.specs.Misfits.{uncomputables}
use Rattle.vhdl_misfits.proofs.told.uncomputed.Goals as goal

pub returns : goal.returns
unfolding uncomputables
returns c = c.told_in.ensures
