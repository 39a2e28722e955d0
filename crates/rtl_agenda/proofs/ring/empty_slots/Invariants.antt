use Rattle.std.proofs.Common.{◌≡◌, ℕ, false, length}
use Rattle.rtl_agenda.specs.Wheel.{entries_of, is_filled, slot_at}
use Rattle.rtl_agenda.proofs.ring.empty_slots.Given as goal

abbrev pub invariant-loop : goal.invariant-loop
invariant-loop l = (length l.slots.items ≡ l.counter) × ((s : ℕ) → is_filled (slot_at (entries_of l.slots.items) s).1 ≡ false)
