use Rattle.rtl_model.proofs.simulation.Report.{levels_are_shown}
use Rattle.rtl_model.proofs.simulation_laws.levels_are_shown.Goals as goal

pub returns : goal.returns
returns c = levels_are_shown
