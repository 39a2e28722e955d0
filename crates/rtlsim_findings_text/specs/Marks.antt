-- Marks in a file's text, from which a place is found without a walk over all that stands before it.
use Rattle.std.specs.Prelude.{◌≡◌, ℕ, ◌*◌, ◌<◌, List, length, map, take, All, slice_index_or}
use Rattle.rtlsim_refusals.specs.Places.{position_behind}
use Rattle.rtlsim_refusals.specs.declared.place.Position.{Position}
use Rattle.vhdl_source_files.specs.Files.{FileView, before, file_view, spot_view}
use Rattle.rtlsim_findings_text.specs.declared.places.MarkedFile.{MarkedFile}
use Rattle.rtlsim_findings_text.specs.declared.places.PlacedByte.{PlacedByte}
use Rattle.rtlsim_findings_text.specs.declared.places.Site.{Site}

-- so many bytes stand between two marks
abbrev pub step : ℕ
step = 1024

-- a mark at each step, and past the text none
pub record AreMarks (text : List ℕ) (marks : List Position) : Type 0 where
  pub each : (k : ℕ) (d : Position) → k < length marks
      → slice_index_or marks k d ≡ position_behind (take (k * step) text)
  pub all : length text < length marks * step

abbrev pub view : MarkedFile → FileView
view m = file_view m.file

-- the files that findings are told with
abbrev pub files_at : Site → List FileView
files_at site = map view site.files.now

abbrev pub IsMarked : MarkedFile → Type 0
IsMarked m = AreMarks m.file.text.now m.marks.items

-- these are the files, with their marks
pub record AreMarked (files : List FileView) (marked : List MarkedFile) : Type 0 where
  pub are : map view marked ≡ files
  pub marks : All IsMarked marked

-- it stands there
abbrev pub Stands : PlacedByte → Type 0
Stands p = p.position ≡ position_behind (before (spot_view p.byte))
