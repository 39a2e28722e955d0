use Rattle.rtl_model.proofs.simulation.Runs.{one_machine_run}
use Rattle.rtl_model.proofs.simulation_laws.one_machine_run.Goals as goal

pub returns : goal.returns
returns c = one_machine_run
