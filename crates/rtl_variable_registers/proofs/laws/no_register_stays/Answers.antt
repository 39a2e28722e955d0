use Rattle.rtl_variable_registers.proofs.Staying.{no_register_stays}
use Rattle.rtl_variable_registers.proofs.laws.no_register_stays.Goals as goal

pub returns : goal.returns
returns c = no_register_stays
