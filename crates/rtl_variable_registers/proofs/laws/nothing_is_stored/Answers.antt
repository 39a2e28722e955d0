use Rattle.rtl_variable_registers.proofs.Stored.{nothing_is_stored}
use Rattle.rtl_variable_registers.proofs.laws.nothing_is_stored.Goals as goal

pub returns : goal.returns
returns c = nothing_is_stored
