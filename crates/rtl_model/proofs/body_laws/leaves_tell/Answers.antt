use Rattle.rtl_model.proofs.bodies.Leaves.{leaves_tell}
use Rattle.rtl_model.proofs.body_laws.leaves_tell.Goals as goal

pub returns : goal.returns
returns c = leaves_tell
