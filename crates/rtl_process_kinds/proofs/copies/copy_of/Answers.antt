use Rattle.rtl_process_kinds.proofs.CopiedBodies.{not_one, no_assignment}
use Rattle.rtl_process_kinds.proofs.copies.copy_of.Goals as goal

pub returns-then-body-ne1 : goal.returns-then-body-ne1
returns-then-body-ne1 c = not_one c.args.body.now c.if-body-ne1.true

pub returns-in_default : goal.returns-in_default
returns-in_default c = no_assignment c.args.body.now c.index-body-0.result c.if-body-ne1.false c.index-body-0.is c.in_default.not-Assign
