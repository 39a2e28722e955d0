use Rattle.rtl_variable_registers.proofs.Accepted.{accepted_stays}
use Rattle.rtl_variable_registers.proofs.laws.accepted_stays.Goals as goal

pub returns : goal.returns
returns c = accepted_stays
