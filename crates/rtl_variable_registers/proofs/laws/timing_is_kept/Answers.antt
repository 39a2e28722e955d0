use Rattle.rtl_variable_registers.proofs.Timing.{timing_is_kept}
use Rattle.rtl_variable_registers.proofs.laws.timing_is_kept.Goals as goal

pub returns : goal.returns
returns c = timing_is_kept
