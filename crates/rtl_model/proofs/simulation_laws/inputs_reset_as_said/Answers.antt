use Rattle.rtl_model.proofs.simulation.InputResets.{inputs_reset_as_said}
use Rattle.rtl_model.proofs.simulation_laws.inputs_reset_as_said.Goals as goal

pub returns : goal.returns
returns c = inputs_reset_as_said
