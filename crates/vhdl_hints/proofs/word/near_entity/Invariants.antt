use Rattle.std.proofs.Common.{◌≡◌, length}
use Rattle.vhdl_hints.specs.Hints.{near_entity}
use Rattle.vhdl_hints.proofs.word.near_entity.Given as goal

-- no such entity begins before the tokens that are left
abbrev pub invariant-loop-left : goal.invariant-loop-left
invariant-loop-left l = near_entity l.text l.word l.left ≡ near_entity l.text l.word l.tokens

abbrev pub decreases-loop-left : goal.decreases-loop-left
decreases-loop-left l = length l.left
