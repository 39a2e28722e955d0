use Rattle.rtl_model.proofs.nets.Values.{has_values}
use Rattle.rtl_model.proofs.nets.Processes.{has_bodies}
use Rattle.rtl_model.proofs.net_laws.bodies_have_what_is_asked.Goals as goal

pub returns-clause-values : goal.returns-clause-values
returns-clause-values c = has_values

pub returns-clause-bodies : goal.returns-clause-bodies
returns-clause-bodies c = has_bodies
