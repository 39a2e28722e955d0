use Rattle.rtl_model.proofs.bodies.Sequences.{later_replaces}
use Rattle.rtl_model.proofs.body_laws.later_replaces.Goals as goal

pub returns : goal.returns
returns c = later_replaces
