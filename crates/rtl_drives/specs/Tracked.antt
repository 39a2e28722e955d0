-- The entries, by their marks and values, and the list of the places that a run has assigned, as spans.
use Rattle.std.specs.Prelude.{◌≡◌, ℕ, ◌+◌, ◌<◌, ◌≤◌, Bool, true, false, List, [], ◌∷◌, All, length, drop, reverse, slice_index, slice_index_or, Option, Some, None}
use Rattle.std.specs.List.{range_with_len}
use Rattle.std.specs.Option.{is_some}
use Rattle.std.specs.Vec.{vec_capacity}
use Rattle.rtl_drives.specs.Listed.{AreListed}
use Rattle.rtl_drives.specs.Outcomes.{Outcome}
use Rattle.rtl_drives.specs.Spans.{places_of}
use Rattle.rtl_drives.specs.declared.drives.Drives.TheInside.{Inside}
use Rattle.rtl_drives.specs.declared.spans.Span.{Span}

abbrev pub entry : List (Option ℕ) → (place : ℕ) → Option ℕ
entry entries place = slice_index_or entries place None

-- where a place is marked its value is its entry; else it has none, whatever its value
abbrev pub entry_of : (mark : Bool) → (value : ℕ) → Option ℕ
entry_of true value = Some value
entry_of false value = None

abbrev pub entries_of : (marks : List Bool) → (values : List ℕ) → List (Option ℕ)
entries_of [] values = []
entries_of (mark ∷ marks) values = entry_of mark (slice_index values 0) ∷ entries_of marks (drop 1 values)

-- these are the places with an entry, each once
abbrev pub AreAssigned : List (Option ℕ) → (places : List ℕ) → Type 0
AreAssigned entries places = AreListed is_some None entries places

-- the spans lie among so many places
abbrev pub LieWithin : ℕ → List Span → Type 0
LieWithin many spans = All (λ (span : Span). span.first + span.len ≤ many) spans

-- the list of assigned places is right, and has room for all; so have the values that are laid aside
pub record IsTracked (d : Inside) : Type 0 where
  pub each_value : length d.values.items ≡ length d.marks
  pub assigned : AreAssigned (entries_of d.marks d.values.items) (places_of d.assigned.items)
  pub within : LieWithin (length d.marks) d.assigned.items
  -- no span is empty
  pub few : length d.assigned.items ≤ length (places_of d.assigned.items)
  pub reserved : length d.marks ≤ vec_capacity d.assigned
  pub each_element : length d.variables.items ≡ length d.starts.items
  pub laid_fit : d.room ≤ vec_capacity d.laid
  pub bits_fit : d.room ≤ vec_capacity d.bits

abbrev pub outcome_of : Inside → Outcome
outcome_of d = record {
  entries = entries_of d.marks d.values.items;
  starts = d.starts.items;
  variables = d.variables.items;
  room = d.room;
  laid = reverse d.laid.items;
  bits = reverse d.bits.items;
}
