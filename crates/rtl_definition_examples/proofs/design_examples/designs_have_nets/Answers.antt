use Rattle.rtl_definition_examples.proofs.designs.Designs.{counter, inverters, idle_ports, loops}
use Rattle.rtl_definition_examples.proofs.designs.Refusals.{variables}
use Rattle.rtl_definition_examples.proofs.design_examples.designs_have_nets.Goals as goal

pub returns-clause-counter : goal.returns-clause-counter
returns-clause-counter c = counter

pub returns-clause-inverters : goal.returns-clause-inverters
returns-clause-inverters c = inverters

pub returns-clause-idle : goal.returns-clause-idle
returns-clause-idle c = idle_ports

pub returns-clause-loops : goal.returns-clause-loops
returns-clause-loops c = loops

pub returns-clause-variables : goal.returns-clause-variables
returns-clause-variables c = variables
