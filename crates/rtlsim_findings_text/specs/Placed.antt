-- A byte of the source as editors read it, and its line with a mark under it.
use Rattle.std.specs.Prelude.{ℕ, List, [], ◌++◌, Option, Some, None, codes}
use Rattle.rtlsim_refusals.specs.Explained.{position_text}
use Rattle.rtlsim_refusals.specs.Places.{position_behind, line_shown}
use Rattle.vhdl_source_files.specs.Files.{FileView, Spot, before, source_name, spot_in}

-- "FILE:LINE:COLUMN: "
abbrev pub spot_text : Spot → List ℕ
spot_text spot = position_text spot.file.name (position_behind (before spot))

-- the same; or the source's name alone
unfoldable pub place_text : List FileView → Option ℕ → List ℕ
place_text files None = source_name files ++ codes ": "
place_text files (Some at) = spot_text (spot_in files at)

unfoldable pub shown_text : List FileView → Option ℕ → List ℕ
shown_text files None = []
shown_text files (Some at) = line_shown (spot_in files at)
