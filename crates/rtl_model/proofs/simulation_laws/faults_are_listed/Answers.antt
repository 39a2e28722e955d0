use Rattle.rtl_model.proofs.simulation.FaultLists.{each_fault_is_listed}
use Rattle.rtl_model.proofs.simulation_laws.faults_are_listed.Goals as goal

pub returns : goal.returns
returns c = each_fault_is_listed
