use Rattle.std.proofs.Common.{◌≡◌, length}
use Rattle.vhdl_hints.specs.Ends.{begun_from, last_begun}
use Rattle.vhdl_hints.proofs.end_name.last_begun.Given as goal

-- the tokens that are left decide, behind what was found
abbrev pub invariant-loop-left : goal.invariant-loop-left
invariant-loop-left l = begun_from l.word l.found l.left ≡ last_begun l.word l.before

abbrev pub decreases-loop-left : goal.decreases-loop-left
decreases-loop-left l = length l.left
