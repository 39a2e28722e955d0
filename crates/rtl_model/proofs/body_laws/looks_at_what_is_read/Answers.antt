use Rattle.rtl_model.proofs.bodies.LooksRead.{looks_at_reads}
use Rattle.rtl_model.proofs.body_laws.looks_at_what_is_read.Goals as goal

pub returns : goal.returns
returns c = looks_at_reads
