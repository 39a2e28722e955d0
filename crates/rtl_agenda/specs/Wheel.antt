-- What a wheel holds: changes of times within one turn in slots, and those of later times.
use Rattle.std.specs.Prelude.{◌≡◌, ℕ, ◌<◌, ◌≤◌, ◌*◌, ◌-◌, ◌%◌, Bool, true, false, cond, List, [], ◌∷◌, length, map, Option, All, slice_index_or}
use Rattle.std.specs.List.{AllByRecursion}
use Rattle.std.specs.Ordering.{nat_cmp}
use Rattle.std.specs.Map.{keys_of}
use Rattle.std.specs.BTreeMap.{insert_entry}
use Rattle.rtl_agenda.specs.Agenda.{AgendaState, Change}
use Rattle.rtl_agenda.specs.Occupied.{is_marked, most_slots}
use Rattle.rtl_agenda.specs.declared.slot.Slot.{Slot}

-- the time of a slot, and the changes that wait in it
abbrev pub entry_of : Slot → ℕ × List Change
entry_of slot = (slot.time, slot.changes.items)

abbrev pub entries_of : List Slot → List (ℕ × List Change)
entries_of slots = map {B = ℕ × List Change} entry_of slots

abbrev pub slot_at : List (ℕ × List Change) → ℕ → ℕ × List Change
slot_at slots s = slice_index_or slots s (0, [])

-- some change is there
abbrev pub is_filled : List Change → Bool
is_filled [] = false
is_filled (c ∷ cs) = true

-- a slot has a change
abbrev pub IsFilled : List (ℕ × List Change) → ℕ → Type 0
IsFilled slots s = is_filled (slot_at slots s).1 ≡ true

-- what waits far ahead and in slots
abbrev pub waiting_in : (far slots : List (ℕ × List Change)) → List (ℕ × List Change)
waiting_in far [] = far
waiting_in far (e ∷ es) = cond (is_filled e.1) (insert_entry nat_cmp (waiting_in far es) e.0 e.1) (waiting_in far es)

-- the state of an agenda whose changes wait far ahead and in slots
abbrev pub turned_to : (far slots : List (ℕ × List Change)) → Option ℕ → List Change → AgendaState
turned_to far slots last taken = record { waiting = waiting_in far slots; last = last; taken = taken }

-- There are 1 to so many slots; just those with a change are occupied; and their times leave their numbers.
pub record IsRing (slots : List (ℕ × List Change)) (words : List ℕ) : Type 0 where
  pub some : 0 < length slots
  pub bounded : length slots ≤ most_slots
  pub all : length slots ≤ length words * 64
  pub occupied : (s : ℕ) → is_marked words s ≡ is_filled (slot_at slots s).1
  pub placed : (s : ℕ) → IsFilled slots s → (slot_at slots s).0 % length slots ≡ s

-- the times of slots are within one turn from a time on
abbrev pub IsWithinTurn : List (ℕ × List Change) → ℕ → Type 0
IsWithinTurn slots from =
    (s : ℕ) → IsFilled slots s → (from ≤ (slot_at slots s).0) × ((slot_at slots s).0 - from < length slots)

-- the times of slots are within one turn from a time on, and far ones a turn ahead or more
pub record IsParted (far slots : List (ℕ × List Change)) (from : ℕ) : Type 0 where
  pub near : IsWithinTurn slots from
  pub ahead : All (λ t. length slots ≤ t - from) (keys_of far)

-- the times of slots are within one turn from a time on, and far ones come behind all of them, and no earlier than it
pub record IsAhead (far slots : List (ℕ × List Change)) (from : ℕ) : Type 0 where
  pub near : IsWithinTurn slots from
  pub later : AllByRecursion (λ t. from ≤ t) (keys_of far)
  pub behind : (s : ℕ) → IsFilled slots s → AllByRecursion (λ t. (slot_at slots s).0 < t) (keys_of far)
