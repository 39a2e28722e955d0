use Rattle.std.proofs.Common.{◌≡◌, ℕ, ◌<◌}
use Rattle.std.specs.Prelude.{slice_index}
use Rattle.rtl_net.specs.Indices.{numbers}
use Rattle.vhdl_expand_same.proofs.same_parts.same_places.Given as goal

abbrev pub invariant-loop-place : goal.invariant-loop-place
invariant-loop-place l = (k : ℕ) → k < l.place → slice_index (numbers l.left) k ≡ slice_index (numbers l.right) k
