-- What calls wrote to a sink.
use Rattle.std.specs.Prelude.{◌≡◌, ℕ, Option, List, Bool, true, false, not, ◌==◌, ◌&&◌, length, take}
use Rattle.std.specs.Io.KnownBytes.{Appends, Keeps}

-- a sink as contracts see it: the bytes taken so far, where they are known, and whether it has failed
pub record SinkState : Type 0 where
  pub taken : Option (List ℕ)
  pub failed : Bool

abbrev pub IsIntact : SinkState → Type 0
IsIntact sink = sink.failed ≡ false

abbrev pub HasFailed : SinkState → Type 0
HasFailed sink = sink.failed ≡ true

-- to take none of some bytes is a failure
abbrev pub fails_at : ℕ → List ℕ → Bool
fails_at count bytes = (count == 0) && not (length bytes == 0)

-- the whole text went out
abbrev pub TakesAll : SinkState → SinkState → List ℕ → Type 0
TakesAll old new text = Appends old.taken new.taken text

-- a beginning of the text went out
abbrev pub TakesBeginning : SinkState → SinkState → List ℕ → Type 0
TakesBeginning old new text = (count : ℕ) × Appends old.taken new.taken (take count text)

-- nothing went out
abbrev pub TakesNothing : SinkState → SinkState → Type 0
TakesNothing old new = Keeps old.taken new.taken

-- the text goes to the sink: a sink that is intact in the end took the whole, one that was intact took a
-- beginning, and one that had failed takes nothing more
pub record Goes (old new : SinkState) (text : List ℕ) : Type 0 where
  pub whole : IsIntact new → IsIntact old × TakesAll old new text
  pub beginning : IsIntact old → TakesBeginning old new text
  pub nothing : HasFailed old → HasFailed new × TakesNothing old new
