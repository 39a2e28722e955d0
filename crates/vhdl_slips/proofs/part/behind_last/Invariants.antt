use Rattle.std.proofs.Common.{◌≡◌, length}
use Rattle.vhdl_slips.specs.Parts.{behind_last, found_by, later}
use Rattle.vhdl_slips.proofs.part.behind_last.Given as goal

-- the tokens that are left decide, behind what was found
abbrev pub invariant-loop-left : goal.invariant-loop-left
invariant-loop-left l = found_by (later l.kind) l.found l.left ≡ behind_last l.kind l.tokens

abbrev pub decreases-loop-left : goal.decreases-loop-left
decreases-loop-left l = length l.left
