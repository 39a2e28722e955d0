use Rattle.rtl_model.proofs.bodies.Clocking.{follows_its_edge}
use Rattle.rtl_model.proofs.body_laws.follows_its_edge.Goals as goal

pub returns : goal.returns
returns c = follows_its_edge
