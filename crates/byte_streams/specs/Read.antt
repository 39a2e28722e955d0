-- What calls read from a reader.
use Rattle.std.specs.Prelude.{◌≡◌, ℕ, ◌<◌, Option, List, Bool, true, false, length}
use Rattle.std.specs.Io.KnownBytes.{IsAtEnd}

-- a reader as contracts see it: the bytes that are left, where they are known, and whether it has failed
pub record ReaderState : Type 0 where
  pub left : Option (List ℕ)
  pub failed : Bool

-- where nothing is given into a buffer with room, no byte is left, or the reader has failed
abbrev pub EndsOrFails : ℕ → List ℕ → ReaderState → Type 0
EndsOrFails count buffer new = count ≡ 0 → 0 < length buffer → new.failed ≡ false → IsAtEnd new.left

-- a reader that has failed stays so
abbrev pub StaysFailed : ReaderState → ReaderState → Type 0
StaysFailed old new = old.failed ≡ true → new.failed ≡ true
