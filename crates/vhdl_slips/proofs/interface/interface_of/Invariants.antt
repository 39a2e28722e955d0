use Rattle.std.proofs.Common.{◌≡◌, length}
use Rattle.vhdl_slips.specs.Interfaces.{interface_of}
use Rattle.vhdl_slips.proofs.interface.interface_of.Given as goal

-- no entity of the name begins before the tokens that are left
abbrev pub invariant-loop-left : goal.invariant-loop-left
invariant-loop-left l = interface_of l.text l.name l.left ≡ interface_of l.text l.name l.tokens

abbrev pub decreases-loop-left : goal.decreases-loop-left
decreases-loop-left l = length l.left
