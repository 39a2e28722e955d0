-- Marks of places, of which those of one span may be kept as that span.
use Rattle.std.specs.Prelude.{◌≡◌, ℕ, zero, suc, ◌+◌, ◌<◌, ◌≤◌, Bool, true, false, List, length, slice_index_or, slice_set}
use Rattle.rtl_drives.specs.declared.marks.Marks.TheInside.{Inside}

-- so many places from `first` on are marked
abbrev pub marked : (first len : ℕ) → List Bool → List Bool
marked first zero marks = marks
marked first (suc len) marks = marked (first + 1) len (slice_set marks first true)

abbrev pub HasNoMark : List Bool → Type 0
HasNoMark marks = (place : ℕ) → slice_index_or marks place false ≡ false

-- the marks, with those of the span that is marked alone
abbrev pub marks_of : Inside → List Bool
marks_of m = marked m.alone.first m.alone.len m.marks.items

-- the span lies among the places, and where it has some no other place is marked
pub record IsMarking (m : Inside) : Type 0 where
  pub within : m.alone.first + m.alone.len ≤ length m.marks.items
  pub no_other : 0 < m.alone.len → HasNoMark m.marks.items
