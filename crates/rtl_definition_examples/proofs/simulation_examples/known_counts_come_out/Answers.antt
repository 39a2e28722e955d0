use Rattle.rtl_definition_examples.proofs.Rows.{oscillator_settles, sibling_wakes}
use Rattle.rtl_definition_examples.proofs.simulation_examples.known_counts_come_out.Goals as goal

pub returns-clause-oscillator : goal.returns-clause-oscillator
returns-clause-oscillator c = oscillator_settles

pub returns-clause-sibling : goal.returns-clause-sibling
returns-clause-sibling c = sibling_wakes
