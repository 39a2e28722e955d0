use Rattle.rtl_model.proofs.simulation.Loops.{levels_exist}
use Rattle.rtl_model.proofs.simulation_laws.levels_exist.Goals as goal

pub returns : goal.returns
returns c = levels_exist
