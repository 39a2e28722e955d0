use Rattle.rtl_definition_examples.proofs.Nets.{order_of_clocks, reports_of_nets}
use Rattle.rtl_definition_examples.proofs.simulation_examples.reports_of_nets.Goals as goal

pub returns-clause-clocks : goal.returns-clause-clocks
returns-clause-clocks c = order_of_clocks

pub returns-clause-nets : goal.returns-clause-nets
returns-clause-nets c = reports_of_nets
