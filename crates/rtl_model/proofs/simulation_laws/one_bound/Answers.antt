use Rattle.rtl_model.proofs.simulation.OneReport.{one_bound}
use Rattle.rtl_model.proofs.simulation_laws.one_bound.Goals as goal

pub returns : goal.returns
returns c = one_bound
