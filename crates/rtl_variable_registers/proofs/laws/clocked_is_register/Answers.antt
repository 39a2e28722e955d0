use Rattle.rtl_variable_registers.proofs.Clocked.{clocked_is_register}
use Rattle.rtl_variable_registers.proofs.laws.clocked_is_register.Goals as goal

pub returns : goal.returns
returns c = clocked_is_register
