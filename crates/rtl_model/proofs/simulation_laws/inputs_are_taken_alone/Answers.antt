use Rattle.rtl_model.proofs.simulation.Consistent.{takes_inputs_alone, each_input_holds, each_change_is_made}
use Rattle.rtl_model.proofs.simulation_laws.inputs_are_taken_alone.Goals as goal

pub returns-clause-alone : goal.returns-clause-alone
returns-clause-alone c = takes_inputs_alone

pub returns-clause-hold : goal.returns-clause-hold
returns-clause-hold c = each_input_holds

pub returns-clause-changes : goal.returns-clause-changes
returns-clause-changes c = each_change_is_made
