use Rattle.std.proofs.Common.{◌≡◌, ◌++◌, map, drop}
use Rattle.vhdl_values.specs.Scalar.{value_of_code}
use Rattle.vhdl_connect.proofs.sources.nine_values.Given as goal

-- the values so far, and those of the codes that are left
abbrev pub invariant-loop-code : goal.invariant-loop-code
invariant-loop-code l = map value_of_code l.codes ≡ l.values.items ++ map value_of_code (drop l.code-index l.codes)
