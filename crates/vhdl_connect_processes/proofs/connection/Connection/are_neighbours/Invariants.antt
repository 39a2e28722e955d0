use Rattle.std.proofs.Common.{◌≡◌, map, slice_index}
use Rattle.std.specs.List.{range_with_len}
use Rattle.vhdl_connect_processes.proofs.connection.Connection.are_neighbours.Given as goal

-- the nets so far are the numbers from the first on
abbrev pub invariant-loop-k : goal.invariant-loop-k
invariant-loop-k l = map (slice_index l.self.nets.now) (range_with_len l.first l.k) ≡ range_with_len l.net l.k
