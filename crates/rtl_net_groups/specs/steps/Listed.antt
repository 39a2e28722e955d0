-- Processes that are listed for groups, by the groups' first nets.
use Rattle.std.specs.Prelude.{◌≡◌, ◌⊎◌, ℕ, ◌<◌, List, [], length, slice_index, slice_index_or, Contains}

-- new has what old has, and this process in the rows of the groups whose first nets are among these
pub record IsListedIn (process : ℕ) (nets first : List ℕ) (old new : List (List ℕ)) : Type 0 where
  pub kept : (g p : ℕ) → Contains (slice_index_or old g []) p → Contains (slice_index_or new g []) p
  pub added : (g : ℕ) → g < length first → Contains nets (slice_index first g)
      → Contains (slice_index_or new g []) process
  pub no_other : (g p : ℕ) → g < length first → Contains (slice_index_or new g []) p
      → Contains (slice_index_or old g []) p ⊎ ((p ≡ process) × Contains nets (slice_index first g))

-- a process is in the row of a group just where the group's first net is listed for it
pub record AreListedByFirst (nets_of : List (List ℕ)) (first : List ℕ) (listed : List (List ℕ)) : Type 0 where
  pub all_are_in : (g p : ℕ) → g < length first
      → Contains (slice_index_or nets_of p []) (slice_index first g) → Contains (slice_index_or listed g []) p
  pub no_other : (g p : ℕ) → g < length first → Contains (slice_index_or listed g []) p
      → Contains (slice_index_or nets_of p []) (slice_index first g)
