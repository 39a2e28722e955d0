use Rattle.rtl_definition_examples.proofs.Variables.{variables_of_nets}
use Rattle.rtl_definition_examples.proofs.body_examples.variables_of_nets.Goals as goal

pub returns : goal.returns
returns c = variables_of_nets
