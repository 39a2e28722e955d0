use Rattle.rtl_definition_examples.proofs.Resets as resets
use Rattle.rtl_definition_examples.proofs.simulation_examples.inner_resets_come_out.Goals as goal

pub returns-clause-copies : goal.returns-clause-copies
returns-clause-copies c = resets.copies_as_resets

pub returns-clause-registers : goal.returns-clause-registers
returns-clause-registers c = resets.registers_as_resets

pub returns-clause-inputs : goal.returns-clause-inputs
returns-clause-inputs c = resets.inputs_as_resets

pub returns-clause-next : goal.returns-clause-next
returns-clause-next c = resets.registers_of_resets
