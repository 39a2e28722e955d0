use Rattle.rtl_model.proofs.simulation.Range.{runs_in_range}
use Rattle.rtl_model.proofs.simulation_laws.runs_in_range.Goals as goal

pub returns : goal.returns
returns c = runs_in_range
