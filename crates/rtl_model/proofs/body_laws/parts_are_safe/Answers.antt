use Rattle.rtl_model.proofs.bodies.Widths.{each_part_is_safe}
use Rattle.rtl_model.proofs.body_laws.parts_are_safe.Goals as goal

pub returns : goal.returns
returns c = each_part_is_safe
