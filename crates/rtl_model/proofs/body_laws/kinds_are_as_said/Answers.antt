use Rattle.rtl_model.proofs.bodies.Clocking.{each_kind_is_as_said}
use Rattle.rtl_model.proofs.body_laws.kinds_are_as_said.Goals as goal

pub returns : goal.returns
returns c = each_kind_is_as_said
