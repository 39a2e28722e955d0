use Rattle.std.proofs.Common.{◌≡◌, ◌++◌, length, map, string_bytes}
use Rattle.vhdl_source_files.proofs.Named.{told}
use Rattle.vhdl_source_files.proofs.listing.listed.Given as goal

-- those so far and those that are left are all
abbrev pub invariant-loop-left : goal.invariant-loop-left
invariant-loop-left l = map string_bytes l.names.items ++ told l.folder l.left ≡ told l.folder l.initial.left

abbrev pub decreases-loop-left : goal.decreases-loop-left
decreases-loop-left l = length l.left
