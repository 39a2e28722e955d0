-- Which processes are resumed (IEEE 1076-2008, 14.7.5.3): those that are sensitive to a net with an
-- event.
use Rattle.std.specs.Prelude.{◌≡◌, ℕ, ◌<◌, ◌≤◌, ◌⊎◌, false, Bool, List, [], length, map, slice_index, slice_index_or}
use Rattle.std.specs.Prelude.{IsTrue, Contains, Vec}
use Rattle.std.specs.Global.{Global}
use Rattle.std.specs.Vec.{vec_capacity}
use Rattle.rtl_net_groups.specs.Groups.{Grouping}
use Rattle.rtl_model.specs.basics.Valuations.{has_event}
use Rattle.rtl_kernel.specs.worklists.Marked.{AreMarked}

-- for each net the processes that its group is listed for
abbrev pub wakers_of : Grouping → List (List ℕ)
wakers_of groups = map (λ (g : ℕ). slice_index_or groups.listed g []) groups.of_net

-- index has for each net the processes that wake on it, wakes for each process the nets that it
-- wakes on
pub record IsIndex (wakes index : List (List ℕ)) : Type 0 where
  pub all_are_in : (p n : ℕ) → Contains (slice_index_or wakes p []) n → Contains (slice_index_or index n []) p
  pub no_other : (n p : ℕ) → Contains (slice_index_or index n []) p → Contains (slice_index_or wakes p []) n

-- each process that wakes on a net with an event waits, and no other
pub record AreWoken (index : List (List ℕ)) (before current : List ℕ) (waiting : List Bool) : Type 0 where
  pub all_wait : (n p : ℕ) → IsTrue (has_event before current n) → Contains (slice_index_or index n []) p
      → IsTrue (slice_index_or waiting p false)
  pub no_other : (p : ℕ) → IsTrue (slice_index_or waiting p false)
      → (n : ℕ) × IsTrue (has_event before current n) × Contains (slice_index_or index n []) p

-- new has the marks of old, and these
pub record AddsPlaces (places : List ℕ) (old new : List Bool) : Type 0 where
  pub kept : (p : ℕ) → IsTrue (slice_index_or old p false) → IsTrue (slice_index_or new p false)
  pub added : (p : ℕ) → Contains places p → IsTrue (slice_index_or new p false)
  pub no_other : (p : ℕ) → IsTrue (slice_index_or new p false) → IsTrue (slice_index_or old p false) ⊎ Contains places p

-- no number stands twice
abbrev pub AreDifferent : List ℕ → Type 0
AreDifferent xs = (j k : ℕ) → j < length xs → k < length xs → slice_index xs j ≡ slice_index xs k → j ≡ k

-- the list is that of the marked, each once, with room for all
pub record IsListing (marks : Vec Bool Global) (places : Vec ℕ Global) : Type 0 where
  pub marked : AreMarked marks.items places.items
  pub differ : AreDifferent places.items
  pub reserved : length marks.items ≤ vec_capacity places

-- the same of the nets of these groups alone
pub record AreWokenBy (changed : List ℕ) (groups : Grouping)
    (before current : List ℕ) (waiting : List Bool) : Type 0 where
  pub all_wait : (n p : ℕ) → n < length groups.of_net
      → Contains changed (slice_index groups.of_net n) → IsTrue (has_event before current n)
      → Contains (slice_index_or (wakers_of groups) n []) p → IsTrue (slice_index_or waiting p false)
  pub no_other : (p : ℕ) → IsTrue (slice_index_or waiting p false)
      → (n : ℕ) × IsTrue (has_event before current n) × Contains (slice_index_or (wakers_of groups) n []) p
