use Rattle.rtl_variable_registers.proofs.Needing.{kept_is_needed}
use Rattle.rtl_variable_registers.proofs.laws.kept_is_needed.Goals as goal

pub returns : goal.returns
returns c = kept_is_needed
