use Rattle.rtl_definition_examples.proofs.Nets.{races_of_nets}
use Rattle.rtl_definition_examples.proofs.simulation_examples.races_of_nets.Goals as goal

pub returns : goal.returns
returns c = races_of_nets
