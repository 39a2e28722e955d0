use Rattle.rtl_model.proofs.bodies.LooksRead.{nothing_is_kept}
use Rattle.rtl_model.proofs.body_laws.nothing_is_kept.Goals as goal

pub returns : goal.returns
returns c = nothing_is_kept
