use Rattle.rtl_variable_registers.proofs.Whole.{each_settles_alike}
use Rattle.rtl_variable_registers.proofs.laws.settles_alike.Goals as goal

pub returns : goal.returns
returns c = each_settles_alike
