use Rattle.std.proofs.Common.{◌≡◌, map, take, length}
use Rattle.vhdl_values.specs.Scalar.{code_of}
use Rattle.vhdl_values.proofs.vector.Vec9.of.Given as goal

abbrev pub invariant-loop-at : goal.invariant-loop-at
invariant-loop-at l = (length l.codes ≡ 64) × (take l.at l.codes ≡ map code_of (take l.at l.values))
