use Rattle.std.proofs.Common.{◌≡◌, length}
use Rattle.vhdl_slips.specs.Instances.{first_open}
use Rattle.vhdl_slips.proofs.instance.first_open.Given as goal

-- no port before those that are left is left open
abbrev pub invariant-loop-left : goal.invariant-loop-left
invariant-loop-left l = first_open l.text l.associations l.left ≡ first_open l.text l.associations l.ports

abbrev pub decreases-loop-left : goal.decreases-loop-left
decreases-loop-left l = length l.left
