use Rattle.vhdl_values.proofs.Coded.{HaveCodes-none}
use Rattle.vhdl_values.proofs.planes.Planes.new.Goals as goal

pub returns : goal.returns
returns c = HaveCodes-none
