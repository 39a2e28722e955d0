use Rattle.std.proofs.lemmas.Result.{on_ok_weaker}
use Rattle.rtl_looks.proofs.Walking.{nothing_changed}
use Rattle.rtl_looks.proofs.RowWalks.{part_assigned}
use Rattle.rtl_looks.proofs.statements.assign_part.Goals as goal

pub returns-clause-parts : goal.returns-clause-parts
returns-clause-parts c = on_ok_weaker c.take.result (λ h. h.parts) c.take.ensures

pub returns-clause-parted : goal.returns-clause-parted
returns-clause-parted c =
    on_ok_weaker c.take.result (λ h. part_assigned (nothing_changed c.new-changes.result c.args.env.now c.new-changes.ensures.drivers c.new-changes.ensures.elements) c.in_ok-assign.ensures h) c.take.ensures
