use Rattle.rtl_model.proofs.simulation.Consistent.{each_stays_consistent}
use Rattle.rtl_model.proofs.simulation_laws.stays_consistent.Goals as goal

pub returns : goal.returns
returns c = each_stays_consistent
