use Rattle.std.proofs.Common.{◌≡◌, map, take, slice_index}
use Rattle.arrayvec.specs.ArrayVec.{array_vec_len}
use Rattle.rtl_run.proofs.ports.values_at.Given as goal

-- the values of those before this one are there
abbrev pub invariant-loop-net : goal.invariant-loop-net
invariant-loop-net l =
    (l.found.items ≡ map (slice_index l.values) (take l.net-index l.nets)) × (array_vec_len l.found ≡ l.net-index)
