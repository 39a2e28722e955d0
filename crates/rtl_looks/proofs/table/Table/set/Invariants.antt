use Rattle.std.proofs.Common.{◌≡◌, ℕ, suc, ◌-◌, length}
use Rattle.rtl_looks.specs.Denoting.{look_at}
use Rattle.rtl_looks.proofs.table.Table.set.Given as goal

abbrev pub invariant-loop-self : goal.invariant-loop-self
invariant-loop-self l = (k : ℕ) → look_at l.self.looks.items k ≡ look_at l.initial.self.looks.items k

abbrev pub decreases-loop-self : goal.decreases-loop-self
decreases-loop-self l = suc l.number - length l.self.looks.items
