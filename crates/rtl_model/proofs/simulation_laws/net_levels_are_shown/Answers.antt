use Rattle.rtl_model.proofs.simulation.NetLevels.{net_levels_are_shown}
use Rattle.rtl_model.proofs.simulation_laws.net_levels_are_shown.Goals as goal

pub returns : goal.returns
returns c = net_levels_are_shown
