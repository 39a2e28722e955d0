-- A source of several files: its text is theirs, with a line feed between, and each of its bytes is one of a file.
use Rattle.std.specs.Prelude.{◌≡◌, ◌⊎◌, ℕ, ◌-◌, nat_le, if◌then◌else◌, List, [], ◌∷◌, ◌++◌, length, take, drop}
use Rattle.vhdl_source_files.specs.declared.file.SourceFile.{SourceFile}
use Rattle.vhdl_source_files.specs.declared.file.FilePlace.{FilePlace}

-- a file: its name, and its bytes
pub record FileView : Type 0 where
  pub name : List ℕ
  pub text : List ℕ

abbrev pub file_view : SourceFile → FileView
file_view file = record { name = file.name.now; text = file.text.now }

-- the byte between two files
abbrev pub line_feed : ℕ
line_feed = 10

-- the texts in order, with a line feed between two
abbrev pub joined : List FileView → List ℕ
joined [] = []
joined (file ∷ []) = file.text
joined (file ∷ next ∷ files) = file.text ++ line_feed ∷ joined (next ∷ files)

-- a byte of a file, counted from 0
pub record Spot : Type 0 where
  pub file : FileView
  pub at : ℕ

abbrev pub spot : FileView → ℕ → Spot
spot file at = record { file = file; at = at }

abbrev pub spot_view : FilePlace → Spot
spot_view place = spot (file_view place.file) place.at

-- what stands in the file before the byte, and what stands from it on
abbrev pub before : Spot → List ℕ
before s = take s.at s.file.text

abbrev pub after : Spot → List ℕ
after s = drop s.at s.file.text

-- the file without name and bytes
abbrev pub no_file : FileView
no_file = record { name = []; text = [] }

-- Where a byte of the joined text stands, or the end of it: the line feed between two files is at the end of the first.
abbrev pub spot_in : List FileView → (at : ℕ) → Spot
spot_in [] at = spot no_file at
spot_in (file ∷ []) at = spot file at
spot_in (file ∷ next ∷ files) at =
    if nat_le at (length file.text) then spot file at else spot_in (next ∷ files) (at - length file.text - 1)

-- the name of the last of these files, or this where there is none
abbrev pub last_name : (name : List ℕ) → List FileView → List ℕ
last_name name [] = name
last_name name (file ∷ files) = last_name file.name files

-- the name by which the source as a whole is told: that of its last file
abbrev pub source_name : List FileView → List ℕ
source_name files = last_name [] files

-- ---- a byte told by its own file is the byte of the joined text

-- the byte at a place, as a list of one; none behind the end
abbrev pub byte_at : List ℕ → (at : ℕ) → List ℕ
byte_at text at = take 1 (drop at text)

-- the place has the byte of its file, or is the end of its file, behind which a line feed or the end of all stands
abbrev pub Holds : (text : List ℕ) → (at : ℕ) → Spot → Type 0
Holds text at s =
    (byte_at s.file.text s.at ≡ byte_at text at) ⊎ ((s.at ≡ length s.file.text) × (byte_at text at ≡ line_feed ∷ []))
