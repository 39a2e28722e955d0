-- What is known of the files that a read gives: the bytes of one, or why it isn't read.
use Rattle.std.specs.Prelude.{◌≡◌, ◌≢◌, ℕ, ◌<◌, ◌≤◌, ⊤, List, Option, Some, Result, Ok, Err, IfSome, true, false, length, codes}
use Rattle.byte_streams.specs.Read.{ReaderState}
use Rattle.rtlsim.specs.declared.problem.InputProblem.{InputProblem}
use Rattle.rtlsim.specs.declared.problem.InputProblem.TheVariants.{Missing, ReadFailed, TooLong, Endless}

-- the most bytes of one input, and the most reads until its end is met
abbrev pub greatest_input : ℕ
greatest_input = 33554432

-- what a read of an input gives
abbrev pub Answer : Type 0
Answer = Result (List ℕ) InputProblem

-- what is left is longer than an input may be
abbrev pub IsTooLong : (left : Option (List ℕ)) → Type 0
IsTooLong left = IfSome left (λ bytes. greatest_input < length bytes)

-- it has as many bytes as there may be reads, or more: each gives one at least
abbrev pub IsEndless : (left : Option (List ℕ)) → Type 0
IsEndless left = IfSome left (λ bytes. greatest_input ≤ length bytes)

-- a read to the end gives what is left; it fails where the reader fails, where too much is left, or where so many reads
-- come to no end
abbrev pub GivesWhole : ReaderState → ReaderState → Answer → Type 0
GivesWhole old new (Ok all) = IfSome old.left (λ bytes. all ≡ bytes)
GivesWhole old new (Err ReadFailed) = new.failed ≡ true
GivesWhole old new (Err TooLong) = IsTooLong old.left
GivesWhole old new (Err Endless) = IsEndless old.left
GivesWhole old new (Err problem) = ⊥

-- `@` names the standard input, and a read of another file leaves that as it was
pub record GivesStandard (old new : ReaderState) (name : List ℕ) (given : Answer) : Type 0 where
  pub whole : name ≡ codes "@" → GivesWhole old new given
  pub kept : name ≢ codes "@" → new ≡ old

-- and there is no other file
pub record GivesStandardAlone (old new : ReaderState) (name : List ℕ) (given : Answer) : Type 0 where
  pub standard : GivesStandard old new name given
  pub alone : name ≢ codes "@" → given ≡ Err Missing

-- all that a file of the system has left, or too much; which file is opened, and why none is, isn't known
abbrev pub GivesFile : {File : Type 0} → (remaining : File → Option (List ℕ)) → Answer → Type 0
GivesFile {File} remaining (Ok all) = (file : File) × IfSome (remaining file) (λ bytes. all ≡ bytes)
GivesFile {File} remaining (Err TooLong) = (file : File) × IsTooLong (remaining file)
GivesFile {File} remaining (Err Endless) = (file : File) × IsEndless (remaining file)
GivesFile {File} remaining (Err problem) = ⊤

-- and another name is that of a file of the system
pub record GivesNamed {File : Type 0} (remaining : File → Option (List ℕ))
    (old new : ReaderState) (name : List ℕ) (given : Answer) : Type 0 where
  pub standard : GivesStandard old new name given
  pub named : name ≢ codes "@" → GivesFile remaining given

-- what a read of the file of a name may give, between two states of the standard input
abbrev pub Reading : Type 1
Reading = (old new : ReaderState) → (name : List ℕ) → (given : Answer) → Type 0

-- bytes in memory, which never fail
abbrev pub held : List ℕ → ReaderState
held bytes = record { left = Some bytes; failed = false }
