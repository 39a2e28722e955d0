use Rattle.std.proofs.Common.{◌≡◌, ◌++◌, map, length}
use Rattle.vhdl_source_files.specs.Files as spec
use Rattle.vhdl_source_files.specs.Files.{file_view}
use Rattle.vhdl_source_files.proofs.joining.joined.Given as goal

-- what was pushed, and then the texts of the files that are left, are the whole
abbrev pub invariant-loop-left : goal.invariant-loop-left
invariant-loop-left l = l.text.items ++ spec.joined (map file_view l.left) ≡ spec.joined (map file_view l.files)

abbrev pub decreases-loop-left : goal.decreases-loop-left
decreases-loop-left l = length l.left
