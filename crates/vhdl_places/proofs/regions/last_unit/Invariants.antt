use Rattle.std.proofs.Common.{◌≡◌, length}
use Rattle.vhdl_slips.specs.Parts.{found_by}
use Rattle.vhdl_places.specs.Regions.{last_unit, unit_at}
use Rattle.vhdl_places.proofs.regions.last_unit.Given as goal

-- the tokens that are left decide, behind what was found
abbrev pub invariant-loop-left : goal.invariant-loop-left
invariant-loop-left l = found_by unit_at l.found l.left ≡ last_unit l.before

abbrev pub decreases-loop-left : goal.decreases-loop-left
decreases-loop-left l = length l.left
