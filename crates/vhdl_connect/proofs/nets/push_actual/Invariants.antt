use Rattle.std.proofs.Common.{◌≡◌, ◌++◌, map, drop, slice_index}
use Rattle.vhdl_connect.proofs.nets.push_actual.Given as goal

-- the nets so far, and those of the elements that are left
abbrev pub invariant-loop-element : goal.invariant-loop-element
invariant-loop-element l =
    l.initial.nets.items ++ map (slice_index l.above) l.actual ≡ l.nets.items ++ map (slice_index l.above) (drop l.element-index l.actual)
