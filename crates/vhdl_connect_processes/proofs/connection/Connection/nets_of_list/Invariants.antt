use Rattle.std.proofs.Common.{◌≡◌, ◌++◌, map, drop, slice_index}
use Rattle.vhdl_connect_processes.proofs.connection.Connection.nets_of_list.Given as goal

-- the nets so far, and those of the elements that are left
abbrev pub invariant-loop-element : goal.invariant-loop-element
invariant-loop-element l = map (slice_index l.self.nets.now) l.elements ≡ l.nets.items ++ map (slice_index l.self.nets.now) (drop l.element-index l.elements)
