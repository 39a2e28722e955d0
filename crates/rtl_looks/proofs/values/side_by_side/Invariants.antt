use Rattle.rtl_looks.proofs.Elements.{Besides}
use Rattle.rtl_looks.proofs.values.side_by_side.Given as goal

abbrev pub invariant-loop-place : goal.invariant-loop-place
invariant-loop-place l = Besides l.initial.hubs.hubs.items l.hubs.hubs.items l.left l.right l.place l.both.items
