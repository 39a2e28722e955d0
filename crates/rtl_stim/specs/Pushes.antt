-- What filling an agenda pushes.
use Rattle.std.specs.Prelude.{◌≡◌, ◌↔◌, ◌⊎◌, ℕ, ◌<◌, ◌==◌, ◌+◌, ◌-◌, ◌%◌, nat_lt, nat_le, List, [], ◌∷◌, ◌++◌, Contains, Option, Some, None, Result, Ok, Err, filter, length, slice_index, slice_index_or, take, if◌then◌else◌}
use Rattle.std.specs.List.{range_with_len}
use Rattle.vhdl_values.specs.declared.scalar.Nine.TheVariants.{U}
use Rattle.rtl_agenda.specs.Agenda.{AgendaState, Change, changes_at}
use Rattle.rtl_stim_lines.specs.Inputs.{Input, Element, input_at}
use Rattle.rtl_stim_lines.specs.Courses.{Course, course_value, is_busy}
use Rattle.rtl_stim_lines.specs.Reading.{Schedule}
use Rattle.rtl_stim_lines.specs.Times.{nets_of}
use Rattle.rtl_stim_lines.specs.View.{course_in}
use Rattle.rtl_stim.specs.Numbered.{numbered}

-- a change at a time
abbrev pub Push : Type 0
Push = ℕ × Change

-- What waits afterwards is what did before, and what was pushed.
abbrev pub AddsTo : (old new : List (ℕ × List Change)) → List Push → Type 0
AddsTo old new pushes =
    (t : ℕ) (c : Change) → Contains (changes_at new t) c ↔ (Contains (changes_at old t) c ⊎ Contains pushes (t, c))

-- Where memory is refused: what waited waits still, and what else waits is some of what was to be pushed.
pub record AddsSome (old new : List (ℕ × List Change)) (pushes : List Push) : Type 0 where
  pub kept : (t : ℕ) (c : Change) → Contains (changes_at old t) c → Contains (changes_at new t) c
  pub pushed : (t : ℕ) (c : Change) → Contains (changes_at new t) c
      → Contains (changes_at old t) c ⊎ Contains pushes (t, c)

-- all of these were pushed, or where memory was refused some
abbrev pub HasPushed : {T E : Type 0} → (old new : List (ℕ × List Change)) → List Push → Result T E → Type 0
HasPushed old new pushes (Ok _) = AddsTo old new pushes
HasPushed old new pushes (Err _) = AddsSome old new pushes

-- the time taken last and its changes stay
pub record KeepsTaken (old new : AgendaState) : Type 0 where
  pub last : new.last ≡ old.last
  pub taken : new.taken ≡ old.taken

-- no change of these nets waits, for this time, and for any
abbrev pub IsFreeAt : (waiting : List (ℕ × List Change)) → (t : ℕ) → (nets : List ℕ) → Type 0
IsFreeAt waiting t nets = (c : Change) → Contains (changes_at waiting t) c → Contains nets c.0 → ⊥

abbrev pub IsFree : (waiting : List (ℕ × List Change)) → (nets : List ℕ) → Type 0
IsFree waiting nets = (t : ℕ) → IsFreeAt waiting t nets

-- what each of these gives, one after another
abbrev pub gathered : {X Y : Type 0} → (f : X → List Y) → List X → List Y
gathered f [] = []
gathered f (x ∷ xs) = f x ++ gathered f xs

-- ---- of an input with this course and these elements

-- each element's value at a time
abbrev pub element_pushes : Course → List Element → (t : ℕ) → List Push
element_pushes course elements t =
    numbered {Y = Push} (λ place e. (t, (e.net, course_value course place e.start t))) 0 elements

-- the time after now at which a clock toggles first, if it ever does
abbrev pub next_time : (first half now : ℕ) → Option ℕ
next_time first half now =
    if nat_lt now first then Some first else (if half == 0 then None else Some (now + (half - (now - first) % half)))

abbrev pub up_to : (stop : ℕ) → Option ℕ → List ℕ
up_to stop None = []
up_to stop (Some t) = if nat_le t stop then t ∷ [] else []

-- the first time after now, up to the stop, at which a course is busy, if there is one
abbrev pub due : Course → (now stop : ℕ) → List ℕ
due course now stop = take 1 (filter (λ t. is_busy course t) (range_with_len (now + 1) (stop - now)))

abbrev pub due_pushes : Course → List Element → (now stop : ℕ) → List Push
due_pushes course elements now stop = gathered (element_pushes course elements) (due course now stop)

-- ---- of the input at a place

abbrev pub place_pushes : List Input → Schedule → (now place : ℕ) → List Push
place_pushes inputs schedule now place =
    due_pushes (course_in schedule place) (input_at inputs place).elements now schedule.stop

-- of an input that is busy now, what comes next
abbrev pub busy_pushes : List Input → Schedule → (now place : ℕ) → List Push
busy_pushes inputs schedule now place =
    if is_busy (course_in schedule place) now then place_pushes inputs schedule now place else []

-- ---- of the changes that were taken

-- the net of an input's first element
abbrev pub first_net : Input → ℕ
first_net input = slice_index (nets_of input) 0

-- the net of the change at a place
abbrev pub changed_net : List Change → (place : ℕ) → ℕ
changed_net changes k = (slice_index_or changes k (0, U)).0

-- among so many changes is one of the first net of the input at a place
abbrev pub IsTaken : List Input → List Change → (count place : ℕ) → Type 0
IsTaken inputs changes count place =
    (place < length inputs) × (k : ℕ) × (k < count) × (changed_net changes k ≡ first_net (input_at inputs place))

-- the places of those inputs
abbrev pub ArePlaces : List Input → List Change → (count : ℕ) → (places : List ℕ) → Type 0
ArePlaces inputs changes count places = (place : ℕ) → Contains places place ↔ IsTaken inputs changes count place
