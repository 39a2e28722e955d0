use Rattle.rtl_definition_examples.proofs.Nets.{states_of_nets}
use Rattle.rtl_definition_examples.proofs.simulation_examples.states_of_nets.Goals as goal

pub returns : goal.returns
returns c = states_of_nets
