use Rattle.rtl_model.proofs.simulation.FaultLists.{accepted_by_processes}
use Rattle.rtl_model.proofs.simulation_laws.accepted_by_processes.Goals as goal

pub returns : goal.returns
returns c = accepted_by_processes
