use Rattle.std.proofs.Common.{length}
use Rattle.rtl_looks.proofs.Parting.{TakesSome}
use Rattle.rtl_looks.proofs.ends.take_each.Given as goal

abbrev pub invariant-loop-change : goal.invariant-loop-change
invariant-loop-change l = TakesSome l.initial.hubs.hubs.items l.parts l.initial.table.looks.items l.initial.changes.items l.initial.ends l.hubs.hubs.items l.table.looks.items l.changes.items l.ends

abbrev pub decreases-loop-change : goal.decreases-loop-change
decreases-loop-change l = length l.changes.items
