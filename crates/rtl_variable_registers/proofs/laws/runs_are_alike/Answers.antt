use Rattle.rtl_variable_registers.proofs.Alike.{each_runs_alike}
use Rattle.rtl_variable_registers.proofs.laws.runs_are_alike.Goals as goal

pub returns : goal.returns
returns c = each_runs_alike
