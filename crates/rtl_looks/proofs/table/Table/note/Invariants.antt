use Rattle.std.proofs.Common.{◌≡◌, suc, ◌-◌, length}
use Rattle.rtl_looks.proofs.table.Table.note.Given as goal

abbrev pub invariant-loop-self : goal.invariant-loop-self
invariant-loop-self l = l.self.looks.items ≡ l.initial.self.looks.items

abbrev pub decreases-loop-self : goal.decreases-loop-self
decreases-loop-self l = suc l.number - length l.self.noted.items
