use Rattle.rtl_variable_registers.proofs.Clocked.{known_reset_is_register}
use Rattle.rtl_variable_registers.proofs.laws.known_reset_is_register.Goals as goal

pub returns : goal.returns
returns c = known_reset_is_register
