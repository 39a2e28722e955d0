use Rattle.std.proofs.Common.{◌≡◌, ◌++◌, map, drop}
use Rattle.std.specs.Prelude.{slice_index}
use Rattle.vhdl_connect_processes.proofs.woken.nets_of.Given as goal

-- the nets so far, and those of the elements that are left
abbrev pub invariant-loop-element : goal.invariant-loop-element
invariant-loop-element l =
    map (slice_index l.connection.nets.now) l.elements ≡ l.found.items ++ map (slice_index l.connection.nets.now) (drop l.element-index l.elements)
