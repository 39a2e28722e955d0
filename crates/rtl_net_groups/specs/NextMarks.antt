-- Marks that are looked for.
use Rattle.std.specs.Prelude.{◌≡◌, ℕ, ◌<◌, ◌≤◌, Bool, false, List, slice_index_or, IsTrue}

-- none of the places from this one on and before an end is marked
abbrev pub AreUnmarked : List Bool → (from end : ℕ) → Type 0
AreUnmarked marks from end = (k : ℕ) → from ≤ k → k < end → slice_index_or marks k false ≡ false

-- the first marked place from this one on and before an end, or the end
pub record IsNextMark (marks : List Bool) (from end next : ℕ) : Type 0 where
  pub later : from ≤ next
  pub within : next ≤ end
  pub unmarked : AreUnmarked marks from next
  pub marked : next < end → IsTrue (slice_index_or marks next false)
