use Rattle.std.specs.Prelude.{◌≡◌, take, slice_index}
use Rattle.std.specs.List.{range_with_len}
use Rattle.rtl_vcd.proofs.ready.are_neighbours.Given as goal

-- the nets before this place stand one behind the other
abbrev pub invariant-loop-place : goal.invariant-loop-place
invariant-loop-place l = take l.place l.nets ≡ range_with_len (slice_index l.nets 0) l.place
