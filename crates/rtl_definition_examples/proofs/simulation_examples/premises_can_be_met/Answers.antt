use Rattle.rtl_definition_examples.proofs.Toggling.{premises_can_be_met, bounds_are_met}
use Rattle.rtl_definition_examples.proofs.simulation_examples.premises_can_be_met.Goals as goal

pub returns-clause-premises : goal.returns-clause-premises
returns-clause-premises c = premises_can_be_met

pub returns-clause-counts : goal.returns-clause-counts
returns-clause-counts c = bounds_are_met
