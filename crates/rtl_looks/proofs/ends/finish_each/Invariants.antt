use Rattle.std.specs.BTreeMap.{btree_map_len}
use Rattle.rtl_looks.proofs.Finishing.{FinishesSome}
use Rattle.rtl_looks.proofs.ends.finish_each.Given as goal

abbrev pub invariant-loop-number : goal.invariant-loop-number
invariant-loop-number l = FinishesSome l.initial.hubs.hubs.items l.parts l.initial.table.looks.items l.initial.changes.items l.initial.ends l.hubs.hubs.items l.table.looks.items l.changes.items l.ends

abbrev pub decreases-loop-number : goal.decreases-loop-number
decreases-loop-number l = btree_map_len l.ends
