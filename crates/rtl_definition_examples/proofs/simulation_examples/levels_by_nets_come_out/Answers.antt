use Rattle.rtl_definition_examples.proofs.ByNets.{levels_of_ripple, levels_of_resets, loops_of_nets}
use Rattle.rtl_definition_examples.proofs.simulation_examples.levels_by_nets_come_out.Goals as goal

pub returns-clause-ripple : goal.returns-clause-ripple
returns-clause-ripple c = levels_of_ripple

pub returns-clause-resets : goal.returns-clause-resets
returns-clause-resets c = levels_of_resets

pub returns-clause-loops : goal.returns-clause-loops
returns-clause-loops c = loops_of_nets
