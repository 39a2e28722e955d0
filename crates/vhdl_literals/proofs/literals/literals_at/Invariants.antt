use Rattle.std.proofs.Common.{◌≡◌, length}
use Rattle.vhdl_literals.specs.Declarations.{literals_at, type_named}
use Rattle.vhdl_slips.specs.Parts.{found_by}
use Rattle.vhdl_slips.specs.Words.{read_of}
use Rattle.vhdl_literals.proofs.literals.literals_at.Given as goal

-- the tokens that are left decide, behind what was found
abbrev pub invariant-loop-left : goal.invariant-loop-left
invariant-loop-left l = found_by (type_named l.source.text.now l.mark) l.found l.left ≡ literals_at l.at (read_of l.source)

abbrev pub decreases-loop-left : goal.decreases-loop-left
decreases-loop-left l = length l.left
