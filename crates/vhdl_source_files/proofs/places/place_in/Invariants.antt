use Rattle.std.proofs.Common.{◌≡◌, map, length}
use Rattle.vhdl_source_files.specs.Files.{file_view, spot_in}
use Rattle.vhdl_source_files.proofs.places.place_in.Given as goal

-- the byte stands in the files that are left where it stands in all of them
abbrev pub invariant-loop-left : goal.invariant-loop-left
invariant-loop-left l = spot_in (map file_view l.left) l.at ≡ spot_in (map file_view l.files) l.at-2

abbrev pub decreases-loop-left : goal.decreases-loop-left
decreases-loop-left l = length l.left
