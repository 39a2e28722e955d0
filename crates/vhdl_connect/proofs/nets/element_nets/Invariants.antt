use Rattle.std.proofs.Common.{◌≡◌, ◌+◌, map, take}
use Rattle.vhdl_elab_rules.specs.Numbering.{element_nets, own_sizes}
use Rattle.vhdl_expand_tree.specs.Views.{object_view}
use Rattle.vhdl_connect.proofs.nets.element_nets.Given as goal

-- the nets of the objects so far, and the number of the next one
abbrev pub invariant-loop-object : goal.invariant-loop-object
invariant-loop-object l =
    (l.next ≡ l.first + own_sizes (map object_view (take l.object-index l.objects)))
    × (l.nets.items ≡ element_nets l.above l.first (map object_view (take l.object-index l.objects)))
