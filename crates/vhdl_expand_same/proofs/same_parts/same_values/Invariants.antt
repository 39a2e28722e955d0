use Rattle.std.proofs.Common.{◌≡◌, ℕ, ◌<◌, map}
use Rattle.std.specs.Prelude.{slice_index}
use Rattle.vhdl_values.specs.Scalar.{code_of}
use Rattle.vhdl_expand_same.proofs.same_parts.same_values.Given as goal

abbrev pub invariant-loop-place : goal.invariant-loop-place
invariant-loop-place l = (k : ℕ) → k < l.place → slice_index (map code_of l.left) k ≡ slice_index (map code_of l.right) k
