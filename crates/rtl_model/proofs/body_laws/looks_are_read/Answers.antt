use Rattle.rtl_model.proofs.bodies.LooksRead.{looks_are_read}
use Rattle.rtl_model.proofs.body_laws.looks_are_read.Goals as goal

pub returns : goal.returns
returns c = looks_are_read
