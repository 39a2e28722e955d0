use Rattle.rtl_model.proofs.bodies.Widths.{has_its_width}
use Rattle.rtl_model.proofs.body_laws.has_its_width.Goals as goal

pub returns : goal.returns
returns c = has_its_width
