use Rattle.rtl_model.proofs.simulation.Range.{solutions_in_range}
use Rattle.rtl_model.proofs.simulation_laws.solutions_in_range.Goals as goal

pub returns : goal.returns
returns c = solutions_in_range
