use Rattle.std.proofs.Common.{◌≡◌, [], length, map}
use Rattle.vhdl_source_files.specs.Files.{file_view, last_name}
use Rattle.vhdl_source_files.proofs.places.source_name.Given as goal

-- the last of those that are left is the last of all
abbrev pub invariant-loop-left : goal.invariant-loop-left
invariant-loop-left l = last_name l.name (map file_view l.left) ≡ last_name [] (map file_view l.files)

abbrev pub decreases-loop-left : goal.decreases-loop-left
decreases-loop-left l = length l.left
