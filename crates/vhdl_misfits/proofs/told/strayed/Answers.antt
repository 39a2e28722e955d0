use Rattle.vhdl_misfits.specs.Misfits.{strays}
use Rattle.vhdl_misfits.proofs.told.strayed.Goals as goal

pub returns : goal.returns
unfolding strays
returns c = c.told_in.ensures
