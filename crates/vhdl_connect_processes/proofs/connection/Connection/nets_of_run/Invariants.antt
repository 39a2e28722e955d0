use Rattle.std.proofs.Common.{◌≡◌, map, slice_index}
use Rattle.std.specs.List.{range_with_len}
use Rattle.vhdl_connect_processes.proofs.connection.Connection.nets_of_run.Given as goal

-- the nets so far
abbrev pub invariant-loop-k : goal.invariant-loop-k
invariant-loop-k l = l.nets.items ≡ map (slice_index l.self.nets.now) (range_with_len l.first l.k)
