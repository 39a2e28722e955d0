use Rattle.std.proofs.Common.{◌≡◌, length}
use Rattle.vhdl_slips.specs.Instances.{is_given}
use Rattle.vhdl_slips.proofs.instance.is_given.Given as goal

-- the tokens that are left decide
abbrev pub invariant-loop-left : goal.invariant-loop-left
invariant-loop-left l = is_given l.text l.name l.left ≡ is_given l.text l.name l.associations

abbrev pub decreases-loop-left : goal.decreases-loop-left
decreases-loop-left l = length l.left
