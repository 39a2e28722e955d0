use Rattle.std.proofs.Common.{◌≡◌}
use Rattle.std.specs.List.{sum_by}
use Rattle.vhdl_names_rules.specs.Edges as edges
use Rattle.vhdl_names_trees.specs.views.Tests.{test_view}
use Rattle.vhdl_names_registers.proofs.Taking.{all_of, size_of}
use Rattle.vhdl_names_registers.proofs.conditions.conditions.Given as goal

-- what is left, and what is found from the end
abbrev pub invariant-loop-next : goal.invariant-loop-next
invariant-loop-next l = edges.conditions (test_view l.fn.test) ≡ all_of l.left.items l.all.items

abbrev pub decreases-loop-next : goal.decreases-loop-next
decreases-loop-next l = sum_by size_of l.left.items
