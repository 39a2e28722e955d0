use Rattle.std.proofs.Common.{◌≡◌, ◌+◌, ◌++◌, map, slice_index}
use Rattle.std.specs.Prelude.{take}
use Rattle.arrayvec.specs.ArrayVec.{array_vec_len}
use Rattle.rtl_vcd_values.specs.Values as spec
use Rattle.rtl_vcd_values.proofs.line.push_elements.Given as goal

-- the elements before this one are printed
abbrev pub invariant-loop-net : goal.invariant-loop-net
invariant-loop-net l =
    (l.line.items ≡ l.fn.line.items ++ map spec.character (map (slice_index l.values) (take l.net-index l.nets)))
    × (array_vec_len l.line ≡ array_vec_len l.fn.line + l.net-index)
