use Rattle.std.proofs.Common.{◌≡◌, ◌*◌, map, take}
use Rattle.vhdl_values.specs.Scalar.{code_of}
use Rattle.vhdl_values.proofs.vector.Vec9.write_codes.Given as goal

abbrev pub invariant-loop-group : goal.invariant-loop-group
invariant-loop-group l = take (8 * l.group) l.out ≡ map code_of (take (8 * l.group) l.self)
