use Rattle.rtl_variable_registers.proofs.Timing.{clocked_is_kept}
use Rattle.rtl_variable_registers.proofs.laws.clocked_is_kept.Goals as goal

pub returns : goal.returns
returns c = clocked_is_kept
