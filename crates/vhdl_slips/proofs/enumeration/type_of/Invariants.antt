use Rattle.std.proofs.Common.{◌≡◌, length}
use Rattle.vhdl_slips.specs.Choices.{type_at, type_of}
use Rattle.vhdl_slips.specs.Parts.{found_by}
use Rattle.vhdl_slips.specs.Words.{read_of}
use Rattle.vhdl_slips.proofs.enumeration.type_of.Given as goal

-- the tokens that are left decide, behind what was found
abbrev pub invariant-loop-left : goal.invariant-loop-left
invariant-loop-left l = found_by (type_at l.literal l.words.text.now) (read_of l.found) l.left ≡ type_of (read_of l.words) l.literal

abbrev pub decreases-loop-left : goal.decreases-loop-left
decreases-loop-left l = length l.left
