use Rattle.rtl_model.proofs.bodies.There.{each_read_is_there}
use Rattle.rtl_model.proofs.body_laws.reads_are_there.Goals as goal

pub returns : goal.returns
returns c = each_read_is_there
