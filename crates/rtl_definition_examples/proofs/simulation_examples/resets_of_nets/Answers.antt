use Rattle.rtl_definition_examples.proofs.Nets.{resets_of_nets}
use Rattle.rtl_definition_examples.proofs.simulation_examples.resets_of_nets.Goals as goal

pub returns : goal.returns
returns c = resets_of_nets
