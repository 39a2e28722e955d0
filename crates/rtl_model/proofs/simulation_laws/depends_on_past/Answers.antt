use Rattle.rtl_model.proofs.simulation.Past.{depends_on_past, ends_at_last}
use Rattle.rtl_model.proofs.simulation_laws.depends_on_past.Goals as goal

pub returns-clause-past : goal.returns-clause-past
returns-clause-past c = depends_on_past

pub returns-clause-last : goal.returns-clause-last
returns-clause-last c = ends_at_last
