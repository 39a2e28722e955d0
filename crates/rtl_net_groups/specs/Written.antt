-- Runs of values that are written over others.
use Rattle.std.specs.Prelude.{◌≡◌, ℕ, ◌+◌, ◌<◌, ◌≤◌, List, length, slice_index}

-- new has these values from the place `first` on, and else what old has
pub record IsWritten (first : ℕ) (values old new : List ℕ) : Type 0 where
  pub as_many : length new ≡ length old
  pub written : (k : ℕ) → k < length values → slice_index new (first + k) ≡ slice_index values k
  pub below : (q : ℕ) → q < first → slice_index new q ≡ slice_index old q
  pub behind : (q : ℕ) → first + length values ≤ q → slice_index new q ≡ slice_index old q

-- from the place `first` on, old has another value than one of these
pub record IsOther (first : ℕ) (values old : List ℕ) : Type 0 where
  pub place : ℕ
  pub there : place < length values
  pub differ : slice_index old (first + place) ≡ slice_index values place → ⊥

-- as many values differ at this place or behind it
pub record IsOtherFrom (from : ℕ) (values old : List ℕ) : Type 0 where
  pub place : ℕ
  pub behind : from ≤ place
  pub there : place < length values
  pub differ : slice_index old place ≡ slice_index values place → ⊥
