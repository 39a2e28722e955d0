use Rattle.std.proofs.Common.{◌≡◌, length}
use Rattle.vhdl_parser_further.specs.Units as spec
use Rattle.vhdl_parser_further.proofs.unit.starts_with.Given as goal

-- what is left decides
abbrev pub invariant-loop-wanted : goal.invariant-loop-wanted
invariant-loop-wanted l = spec.starts_with l.wanted l.left ≡ spec.starts_with l.kinds l.tokens

abbrev pub decreases-loop-wanted : goal.decreases-loop-wanted
decreases-loop-wanted l = length l.wanted
