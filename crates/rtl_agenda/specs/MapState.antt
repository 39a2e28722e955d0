-- What an agenda over a map holds.
use Rattle.std.specs.Prelude.{ℕ, ◌<◌, map, length, Option, List, All}
use Rattle.std.specs.List.Sorted.{IsStrictlyIncreasing}
use Rattle.std.specs.Map.{keys_of, values_of}
use Rattle.std.specs.BTreeMap.{BTreeMap}
use Rattle.std.specs.Global.{Vec}
use Rattle.rtl_agenda.specs.Agenda.{AgendaState, Change}

-- the entries of a map, each a time with its changes
abbrev pub waiting_of : List (ℕ × Vec Change) → List (ℕ × List Change)
waiting_of entries = map {B = ℕ × List Change} (λ (e : ℕ × Vec Change). (e.0, e.1.items)) entries

-- times rise, and each has a change
pub record IsInOrder (waiting : List (ℕ × List Change)) : Type 0 where
  pub rising : IsStrictlyIncreasing (keys_of waiting)
  pub filled : All (λ changes. 0 < length changes) (values_of waiting)

-- the state of an agenda whose changes wait in a map
abbrev pub state_of : BTreeMap ℕ (Vec Change) → Option ℕ → Vec Change → AgendaState
state_of waiting last taken = record { waiting = waiting_of waiting.entries; last = last; taken = taken.items }
