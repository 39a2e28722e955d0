-- Marks of those that are to run, since a net has changed (IEEE 1076-2008, 14.7.5.3).
use Rattle.std.specs.Prelude.{◌≡◌, ℕ, ◌+◌, ◌<◌, ◌⊎◌, Bool, false, List, [], length, slice_index, slice_index_or, IsTrue, Contains}

-- Of an index: for each net the numbers that a change of it marks, its readers.
module _ (index : List (List ℕ)) where
  -- this number is a reader of the net
  abbrev pub IsReader : (net number : ℕ) → Type 0
  IsReader net number = Contains (slice_index_or index net []) number

  -- all such numbers are below this
  abbrev pub AreBelow : ℕ → Type 0
  AreBelow many = (net number : ℕ) → IsReader net number → number < many

  -- The readers of each net that changes from v to w are marked. What gets marked is a reader of
  -- one of these nets, changed or not: a net that is set twice may have its old value again.
  pub record Marks (nets : ℕ → Type 0) (v w : List ℕ) (old new : List Bool) : Type 0 where
    pub as_many : length new ≡ length old
    pub kept : (k : ℕ) → IsTrue (slice_index_or old k false) → IsTrue (slice_index_or new k false)
    pub readers_marked : (net k : ℕ) → (slice_index v net ≡ slice_index w net → ⊥)
        → IsReader net k → IsTrue (slice_index_or new k false)
    pub no_other : (k : ℕ) → IsTrue (slice_index_or new k false)
        → IsTrue (slice_index_or old k false) ⊎ ((net : ℕ) × nets net × IsReader net k)

  -- all that are marked are readers of these nets
  abbrev pub AllAreReaders : (nets : ℕ → Type 0) → List Bool → Type 0
  AllAreReaders nets marks = (k : ℕ) → IsTrue (slice_index_or marks k false) → (net : ℕ) × nets net × IsReader net k

-- one of these changes gives the net a value
abbrev pub IsGiven : List (ℕ × ℕ) → (net : ℕ) → Type 0
IsGiven changes net = (value : ℕ) × Contains changes (net, value)

-- of the nets from the first on, which get these values, one to which its value is new
pub record GetsOther (first : ℕ) (given v : List ℕ) (net : ℕ) : Type 0 where
  pub at : ℕ
  pub within : at < length given
  pub is : net ≡ first + at
  pub other : slice_index v net ≡ slice_index given at → ⊥

-- none is marked
abbrev pub HasNoMark : List Bool → Type 0
HasNoMark marks = (k : ℕ) → slice_index_or marks k false ≡ false
