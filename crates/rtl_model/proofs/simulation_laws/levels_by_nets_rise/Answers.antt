use Rattle.rtl_model.proofs.simulation.NetLevels.{levels_by_nets_rise}
use Rattle.rtl_model.proofs.simulation_laws.levels_by_nets_rise.Goals as goal

pub returns : goal.returns
returns c = levels_by_nets_rise
