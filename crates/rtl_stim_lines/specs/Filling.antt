-- What waits in an agenda while a stimulus is simulated: not every change that is to come, but enough of them that the
-- least time is always the next moment.
use Rattle.std.specs.Prelude.{◌≡◌, ◌≢◌, ℕ, ◌<◌, ◌≤◌, List, Contains, Some, IfSome, IsTrue, AllPairs, slice_get}
use Rattle.rtl_agenda.specs.Agenda.{Change, changes_at}
use Rattle.rtl_stim_lines.specs.Inputs.{Input}
use Rattle.rtl_stim_lines.specs.Courses.{Course, is_busy}
use Rattle.rtl_stim_lines.specs.Reading.{Schedule}
use Rattle.rtl_stim_lines.specs.Times.{nets_of, all_nets, value_at}

-- no two inputs, and no two elements of one, have the same net
abbrev pub HaveOwnNets : List Input → Type 0
HaveOwnNets inputs = AllPairs (λ n m. n ≢ m) (all_nets inputs)

-- the net is of an input with this course
abbrev pub IsOn : List Input → List Course → Course → (net : ℕ) → Type 0
IsOn inputs courses course net =
    (place : ℕ) × (slice_get courses place ≡ Some course)
    × IfSome (slice_get inputs place) (λ input. Contains (nets_of input) net)

-- at this time an input with this course is set or toggles for the first time after now
abbrev pub IsNext : Course → (now t : ℕ) → Type 0
IsNext course now t =
    IsTrue (is_busy course t) × ((between : ℕ) → now < between → between < t → IsTrue (is_busy course between) → ⊥)

-- A change that is to come after the time now: at this time, up to the stop, its net's input is set or toggles for the
-- first time, and the value is the one that the net has from then on.
abbrev pub IsDue : List Input → Schedule → (now t : ℕ) → Change → Type 0
IsDue inputs schedule now t change =
    (course : Course) × IsOn inputs schedule.courses course change.0
    × (now < t) × (t ≤ schedule.stop) × IsNext course now t
    × (change.1 ≡ value_at inputs schedule change.0 t)

-- What waits after the time now: of each input the next time at which it is set or toggles, with the value that each of
-- its nets has from then on; and nothing else.
pub record Waits (inputs : List Input) (schedule : Schedule) (now : ℕ) (waiting : List (ℕ × List Change)) : Type 0 where
  pub due : (course : Course) (net t : ℕ) → IsOn inputs schedule.courses course net
      → now < t → t ≤ schedule.stop → IsNext course now t
      → Contains (changes_at waiting t) (net, value_at inputs schedule net t)
  pub only : (t : ℕ) (change : Change) → Contains (changes_at waiting t) change → IsDue inputs schedule now t change
