use Rattle.rtl_model.proofs.simulation.Greatest.{one_greatest_count}
use Rattle.rtl_model.proofs.simulation_laws.one_greatest_count.Goals as goal

pub returns : goal.returns
returns c = one_greatest_count
