use Rattle.std.proofs.Common.{◌≡◌, ◌+◌, drop, length}
use Rattle.rtl_drives.specs.Spans.{written}
use Rattle.rtl_drives.proofs.drives.Drives.set_each.Given as goal

-- what is left, on what is done, gives the whole
abbrev pub invariant-loop-at : goal.invariant-loop-at
invariant-loop-at l = record {
  as_many : length l.self.entries ≡ length l.initial.self.entries;
  entries_are : written (l.first + l.at) (drop l.at l.values) l.self.entries ≡ written l.first l.values l.initial.self.entries;
  variables_stay : l.self.variables ≡ l.initial.self.variables;
  starts_stay : l.self.starts ≡ l.initial.self.starts;
  room_stays : l.self.room ≡ l.initial.self.room;
  laid_stay : l.self.laid ≡ l.initial.self.laid;
  bits_stay : l.self.bits ≡ l.initial.self.bits;
}
