use Rattle.rtl_model.proofs.bodies.Looking.{each_looks}
use Rattle.rtl_model.proofs.body_laws.entries_follow_looks.Goals as goal

pub returns : goal.returns
returns c = each_looks
