use Rattle.std.proofs.Common.{◌≡◌, length}
use Rattle.vhdl_places.specs.Maps.{behind_dot, own_label}
use Rattle.vhdl_places.proofs.maps.own_label.Given as goal

-- the bytes that are left decide, behind what was found
abbrev pub invariant-loop-bytes : goal.invariant-loop-bytes
invariant-loop-bytes l = behind_dot l.found l.bytes ≡ own_label l.label

abbrev pub decreases-loop-bytes : goal.decreases-loop-bytes
decreases-loop-bytes l = length l.bytes
