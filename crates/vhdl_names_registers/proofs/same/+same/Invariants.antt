use Rattle.std.proofs.Common.{◌≡◌, ◌≤◌, ◌*◌, suc}
use Rattle.vhdl_names_rules.specs.Edges as edges
use Rattle.vhdl_names_trees.specs.views.Integers.{static_view}
use Rattle.vhdl_names_registers.specs.Spines.{size, prefix_view}
use Rattle.vhdl_names_registers.proofs.same.+same.Given as goal

abbrev pub decreases-same_leaf : goal.decreases-same_leaf
decreases-same_leaf l = suc (size (prefix_view l.left) * 3)

abbrev pub decreases-same_whole : goal.decreases-same_whole
decreases-same_whole l = size (static_view l.left.now) * 3

abbrev pub decreases-same_index : goal.decreases-same_index
decreases-same_index l = suc (suc (size (static_view l.left.now) * 3))

-- what is left to be looked at
abbrev pub invariant-same_index-loop-last : goal.invariant-same_index-loop-last
invariant-same_index-loop-last l =
    (edges.same_index (static_view l.left) (static_view l.right) ≡ edges.same_index (prefix_view l.one) (prefix_view l.other))
    × (size (prefix_view l.one) ≤ size (static_view l.left))

abbrev pub decreases-same_index-loop-last : goal.decreases-same_index-loop-last
decreases-same_index-loop-last l = size (prefix_view l.one)
