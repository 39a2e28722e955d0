use Rattle.std.proofs.Common.{arith}
use Rattle.std.proofs.lemmas.List.{get_or_default}
use Rattle.rtl_looks.proofs.Walking.{no_assigned, assigned_more}
use Rattle.rtl_looks.proofs.statements.assign.Goals as goal

pub loop-place-init : goal.loop-place-init
loop-place-init c = no_assigned c.args.kind c.args.looks.now c.args.round c.args.hubs.now.hubs.items c.args.env.now c.args.changes.now

pub loop-place-preserved : goal.loop-place-preserved
loop-place-preserved c =
    assigned_more c.args.numbers.now c.loop-place.place _ (omega arith) (get_or_default c.args.numbers.now c.loop-place.place 0 _ (omega arith)) c.loop-place.invariant
    (rw c.at.ensures at c.in_ok-look.ensures) c.in_ok-put.ensures.put c.in_ok-put.ensures.kept
