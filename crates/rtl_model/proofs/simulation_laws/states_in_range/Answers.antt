use Rattle.rtl_model.proofs.simulation.StatesInRange.{states_in_range}
use Rattle.rtl_model.proofs.simulation_laws.states_in_range.Goals as goal

pub returns : goal.returns
returns c = states_in_range
