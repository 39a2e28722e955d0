-- What an agenda holds: changes of nets that wait for their times.
use Rattle.std.specs.Prelude.{◌≡◌, ◌≢◌, ℕ, ◌<◌, List, [], ◌∷◌, ◌++◌, length, Option, Some, All, AllPairs, unwrap_or}
use Rattle.std.specs.List.Sorted.{IsStrictlyIncreasing}
use Rattle.std.specs.Ordering.{nat_cmp}
use Rattle.std.specs.Map.{lookup, keys_of, values_of}
use Rattle.std.specs.BTreeMap.{is_at, insert_entry}
use Rattle.vhdl_values.specs.declared.scalar.Nine.{Nine}

-- the number of a net, and the value that it gets
abbrev pub Change : Type 0
Change = ℕ × Nine

-- the times for which changes wait, each with its changes in order of push; the time taken last, and its changes
pub record AgendaState : Type 0 where
  pub waiting : List (ℕ × List Change)
  pub last : Option ℕ
  pub taken : List Change

-- the changes that wait for a time, none where the time isn't there
abbrev pub changes_at : List (ℕ × List Change) → ℕ → List Change
changes_at waiting time = unwrap_or (lookup (is_at (nat_cmp time)) waiting) []

-- what waits once one change more is put last among those of its time
abbrev pub with_change : List (ℕ × List Change) → ℕ → Change → List (ℕ × List Change)
with_change waiting time change = insert_entry nat_cmp waiting time (changes_at waiting time ++ change ∷ [])

-- the time is after the one taken last, if there is one
abbrev pub IsAfter : Option ℕ → ℕ → Type 0
IsAfter last time = (t : ℕ) → last ≡ Some t → t < time

-- no change is of the net
abbrev pub LeavesAlone : List Change → ℕ → Type 0
LeavesAlone changes net = All (λ c. c.0 ≢ net) changes

-- no two changes are of one net
abbrev pub IsOneEach : List Change → Type 0
IsOneEach changes = AllPairs (λ c d. c.0 ≢ d.0) changes

-- the times rise, from after the time taken last; each has a change, and at most one of each net
pub record IsOrderly (s : AgendaState) : Type 0 where
  pub rising : IsStrictlyIncreasing (keys_of s.waiting)
  pub later : All (IsAfter s.last) (keys_of s.waiting)
  pub filled : All (λ changes. 0 < length changes) (values_of s.waiting)
  pub one_each : All IsOneEach (values_of s.waiting)
  pub one_each_taken : IsOneEach s.taken
