use Rattle.rtl_variable_registers.proofs.Connected.{kept_connected}
use Rattle.rtl_variable_registers.proofs.InRange.{kept_in_range}
use Rattle.rtl_variable_registers.proofs.laws.kept_is_sound.Goals as goal

pub returns : goal.returns
returns c net r k = (kept_in_range net r, kept_connected net r k)
