use Rattle.std.proofs.Common.{◌≡◌, ℕ, ◌<◌, ◌≤◌, ◌-◌, ◌*◌, length, false}
use Rattle.rtl_agenda.specs.Occupied.{is_marked}
use Rattle.rtl_agenda.proofs.occupied.Occupied.next_from.Given as goal

abbrev pub invariant-loop-slot : goal.invariant-loop-slot
invariant-loop-slot l = record {
  from : l.from ≤ l.slot;
  free : (s : ℕ) → l.from ≤ s → s < l.slot → is_marked l.self.words.items s ≡ false;
}

abbrev pub decreases-loop-slot : goal.decreases-loop-slot
decreases-loop-slot l = length l.self.words.items * 64 - l.slot
