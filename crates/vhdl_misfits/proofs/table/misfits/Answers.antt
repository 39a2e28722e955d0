use Rattle.std.proofs.Common.{refl}
use Rattle.vhdl_misfits.specs.Misfits.{misfits}
use Rattle.vhdl_misfits.proofs.table.misfits.Goals as goal

pub returns : goal.returns
unfolding misfits
returns c = refl
