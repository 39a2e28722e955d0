use Rattle.rtl_variable_registers.proofs.Beside.{stays_beside}
use Rattle.rtl_variable_registers.proofs.laws.stays_beside.Goals as goal

pub returns : goal.returns
returns c = stays_beside
