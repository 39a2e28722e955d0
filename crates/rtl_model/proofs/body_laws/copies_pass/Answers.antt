use Rattle.rtl_model.proofs.bodies.Copying.{each_copy_passes}
use Rattle.rtl_model.proofs.body_laws.copies_pass.Goals as goal

pub returns : goal.returns
returns c = each_copy_passes
