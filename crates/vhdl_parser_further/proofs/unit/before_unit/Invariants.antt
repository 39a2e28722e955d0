use Rattle.std.proofs.Common.{◌≡◌, ◌+◌, length}
use Rattle.vhdl_parser_further.specs.Units as spec
use Rattle.vhdl_parser_further.proofs.unit.before_unit.Given as goal

abbrev pub invariant-loop-left : goal.invariant-loop-left
invariant-loop-left l = (l.before + spec.before_unit l.left ≡ spec.before_unit l.tokens) × (l.before + length l.left ≡ length l.tokens)

abbrev pub decreases-loop-left : goal.decreases-loop-left
decreases-loop-left l = length l.left
