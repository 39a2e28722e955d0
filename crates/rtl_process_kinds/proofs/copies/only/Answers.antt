use Rattle.rtl_process_kinds.proofs.BodyParts.{no_single}
use Rattle.rtl_process_kinds.proofs.copies.only.Goals as goal

pub returns-else-len-eq1 : goal.returns-else-len-eq1
returns-else-len-eq1 c = no_single c.args.indices.now c.in-Run.first c.in-Run.len c.in-Run.is c.if-len-eq1.false
