use Rattle.rtl_definition_examples.proofs.Nets.{faults_of_nets, order_of_faults}
use Rattle.rtl_definition_examples.proofs.simulation_examples.faults_of_nets.Goals as goal

pub returns-clause-nets : goal.returns-clause-nets
returns-clause-nets c = faults_of_nets

pub returns-clause-order : goal.returns-clause-order
returns-clause-order c = order_of_faults
