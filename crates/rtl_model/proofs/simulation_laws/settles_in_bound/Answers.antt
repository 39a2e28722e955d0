use Rattle.rtl_model.proofs.simulation.Settling.{settles_in_bound}
use Rattle.rtl_model.proofs.simulation_laws.settles_in_bound.Goals as goal

pub returns : goal.returns
returns c = settles_in_bound
