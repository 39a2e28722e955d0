-- Reads one after another, and what they give together.
use Rattle.std.specs.Prelude.{◌≡◌, ◌⊎◌, ℕ, List, [], ◌∷◌, Option, Some, None, Result, Ok, Err, codes}
use Rattle.byte_streams.specs.Read.{ReaderState}
use Rattle.rtlsim.specs.Halves.{halves_of}
use Rattle.rtlsim.specs.Inputs.{Reading}
use Rattle.rtlsim.specs.Unread.{Unread}
use Rattle.vhdl_source_files.specs.Files.{FileView}

-- what may be given between two states of the standard input, or the first input that isn't read
abbrev pub Given : Type 0 → Type 1
Given A = (old new : ReaderState) → Result A Unread → Type 0

-- nothing is read
abbrev pub Without : {A : Type 0} → A → (old new : ReaderState) → Result A Unread → Type 0
Without it old new (Ok given) = (given ≡ it) × (new ≡ old)
Without it old new (Err unread) = ⊥

-- what is made of what was read
abbrev pub Made : {A B : Type 0} → (make : A → B) → Given A → (old new : ReaderState) → Result B Unread → Type 0
Made {A} make Gives old new (Ok made) = (given : A) × Gives old new (Ok given) × (made ≡ make given)
Made make Gives old new (Err unread) = Gives old new (Err unread)

-- one is read, and then another
abbrev pub Then : {A B : Type 0} → (First : Given A) → (Next : Given B)
    → (old new : ReaderState) → Result (A × B) Unread → Type 0
Then First Next old new (Ok both) =
    (between : ReaderState) × First old between (Ok both.0) × Next between new (Ok both.1)
Then {A} First Next old new (Err unread) =
    First old new (Err unread)
    ⊎ ((first : A) × (between : ReaderState) × First old between (Ok first) × Next between new (Err unread))

-- one is read, and what is read next goes by it
abbrev pub ThenBy : {A B : Type 0} → (First : Given A) → (Next : A → Given B)
    → (old new : ReaderState) → Result B Unread → Type 0
ThenBy {A} First Next old new (Ok given) =
    (first : A) × (between : ReaderState) × First old between (Ok first) × Next first between new (Ok given)
ThenBy {A} First Next old new (Err unread) =
    First old new (Err unread)
    ⊎ ((first : A) × (between : ReaderState) × First old between (Ok first) × Next first between new (Err unread))

-- both names are that of the standard input
abbrev pub AreStandard : (file stimulus : List ℕ) → Type 0
AreStandard file stimulus = (file ≡ codes "@") × (stimulus ≡ codes "@")

module _ (Gives : Reading) where
  -- the file of a name, by which it is told where it isn't read
  abbrev pub GivesOne : (name : List ℕ) → (old new : ReaderState) → Result (List ℕ) Unread → Type 0
  GivesOne name old new (Ok text) = Gives old new name (Ok text)
  GivesOne name old new (Err unread) = (unread.name ≡ name) × Gives old new name (Err unread.problem)

  -- the file of a name, if one is named
  abbrev pub GivesMaybe : (name : Option (List ℕ)) → Given (Option (List ℕ))
  GivesMaybe None = Without None
  GivesMaybe (Some name) = Made Some (GivesOne name)

  -- the files of these names in order, each with its name
  abbrev pub GivesAll : (names : List (List ℕ)) → Given (List FileView)
  GivesAll [] = Without []
  GivesAll (name ∷ names) =
      Made (λ read. record { name = name; text = read.0 } ∷ read.1) (Then (GivesOne name) (GivesAll names))

  -- a source and a stimulus: of one input that has both, or the source and then the stimulus
  abbrev pub GivesBoth : (file stimulus : List ℕ) → (old new : ReaderState) → Result (List ℕ × List ℕ) Unread → Type 0
  GivesBoth file stimulus old new given =
      (AreStandard file stimulus × Made halves_of (GivesOne file) old new given)
      ⊎ ((¬ (AreStandard file stimulus)) × Then (GivesOne file) (GivesOne stimulus) old new given)

  -- a source, and a stimulus if one is named; else the stimulus is empty
  abbrev pub GivesMain : (file : List ℕ) → (stimulus : Option (List ℕ)) → Given (List ℕ × List ℕ)
  GivesMain file None = Made (λ source. (source, [])) (GivesOne file)
  GivesMain file (Some stimulus) = GivesBoth file stimulus
