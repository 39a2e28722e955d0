-- A list of the places at which the elements of another list pass a test.
use Rattle.std.specs.Prelude.{◌≡◌, ℕ, ◌<◌, Bool, List, length, slice_index, slice_index_or, IsTrue, Contains}
use Rattle.std.specs.List.{count_by}

-- these are the places of the elements that pass, each once; past the end stands `none`
pub record AreListed {X : Type 0} (passes : X → Bool) (none : X) (xs : List X) (places : List ℕ) : Type 0 where
  pub there : (k : ℕ) → k < length places → slice_index places k < length xs
  pub pass : (k : ℕ) → k < length places → IsTrue (passes (slice_index_or xs (slice_index places k) none))
  pub are_all : (place : ℕ) → IsTrue (passes (slice_index_or xs place none)) → Contains places place
  pub each_once : length places ≡ count_by passes xs
