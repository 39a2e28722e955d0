use Rattle.vhdl_misfits.specs.Misfits.{foreigns}
use Rattle.vhdl_misfits.proofs.told.foreign.Goals as goal

pub returns : goal.returns
unfolding foreigns
returns c = c.told_in.ensures
