use Rattle.rtl_variable_registers.proofs.Straight.{straight_sets}
use Rattle.rtl_variable_registers.proofs.laws.straight_sets.Goals as goal

pub returns : goal.returns
returns c = straight_sets
