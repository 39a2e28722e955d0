use Rattle.rtl_variable_registers.proofs.Staying.{keeps_none_stays}
use Rattle.rtl_variable_registers.proofs.laws.keeps_none_stays.Goals as goal

pub returns : goal.returns
returns c = keeps_none_stays
