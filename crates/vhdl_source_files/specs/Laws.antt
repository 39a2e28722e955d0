-- A byte of a source of several files is told by the file that has it.
use Rattle.std.specs.Prelude.{◌≡◌, ◌≢◌, ℕ, ◌+◌, ◌≤◌, List, [], ◌∷◌, ◌++◌, length, flat_map}
use Rattle.vhdl_source_files.specs.Files.{FileView, Holds, Spot, joined, line_feed, spot_in}

-- At each place of the joined text of any files. Behind its end there is no byte, and none is told.
abbrev pub EachByteIsToldByItsFile : Type 0
EachByteIsToldByItsFile = (files : List FileView) (at : ℕ) → Holds (joined files) at (spot_in files at)

-- what stands in the joined text before the file behind these
abbrev pub text_before : List FileView → List ℕ
text_before files = flat_map (λ file. file.text ++ line_feed ∷ []) files

-- the place is one of a file, or its end, as far behind its beginning as the byte is in the joined text
pub record IsPlaced (files : List FileView) (at : ℕ) (s : Spot) : Type 0 where
  pub front : List FileView
  pub back : List FileView
  pub among : files ≡ front ++ s.file ∷ back
  pub far : at ≡ length (text_before front) + s.at
  pub inside : s.at ≤ length s.file.text

-- The same at the end of that text: it is that of the last file.
abbrev pub EachByteIsPlacedInItsFile : Type 0
EachByteIsPlacedInItsFile =
    (files : List FileView) (at : ℕ) → files ≢ [] → at ≤ length (joined files) → IsPlaced files at (spot_in files at)
