use Rattle.std.proofs.Common.{◌≡◌, ◌++◌, map, slice_index}
use Rattle.std.specs.List.{range_with_len}
use Rattle.vhdl_elab.proofs.nets.push_defaults.Given as goal

abbrev pub invariant-loop-k : goal.invariant-loop-k
invariant-loop-k l = l.defaults.items ≡ l.initial.defaults.items ++ map (slice_index l.starts) (range_with_len 0 l.k)
