use Rattle.std.proofs.Common.{◌≡◌, ◌++◌, map, drop}
use Rattle.vhdl_values.specs.Scalar.{code_of}
use Rattle.vhdl_expand_processes.proofs.variables.vector_codes.Given as goal

-- the codes so far, and those of the values that are left
abbrev pub invariant-loop-place : goal.invariant-loop-place
invariant-loop-place l = map code_of l.values ≡ l.codes.items ++ map code_of (drop l.place l.values)
