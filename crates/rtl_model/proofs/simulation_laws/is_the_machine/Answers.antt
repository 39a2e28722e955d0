use Rattle.rtl_model.proofs.simulation.Settling.{is_the_machine}
use Rattle.rtl_model.proofs.simulation_laws.is_the_machine.Goals as goal

pub returns : goal.returns
returns c = is_the_machine
