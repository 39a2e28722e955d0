use Rattle.std.proofs.Common.{◌≡◌, length}
use Rattle.vhdl_hints.specs.Hints.{formal_behind}
use Rattle.vhdl_hints.proofs.misplaced.formal_behind.Given as goal

-- it stands among the tokens that are left, behind those that are ahead
abbrev pub invariant-loop-left : goal.invariant-loop-left
invariant-loop-left l = formal_behind l.ahead l.left ≡ formal_behind l.others l.tokens

abbrev pub decreases-loop-left : goal.decreases-loop-left
decreases-loop-left l = length l.left
