use Rattle.rtl_model.proofs.simulation.NetLevels.{levels_by_nets_exist}
use Rattle.rtl_model.proofs.simulation_laws.levels_by_nets_exist.Goals as goal

pub returns : goal.returns
returns c = levels_by_nets_exist
