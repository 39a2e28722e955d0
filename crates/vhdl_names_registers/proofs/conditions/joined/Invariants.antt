use Rattle.std.proofs.Common.{◌≡◌, map, Some}
use Rattle.vhdl_names_rules.specs.Edges as edges
use Rattle.vhdl_names_trees.specs.views.Tests.{test_view}
use Rattle.vhdl_names_registers.specs.Taking.{all_joined}
use Rattle.vhdl_names_registers.specs.Views.{tests_view}
use Rattle.vhdl_names_registers.proofs.conditions.joined.Given as goal

-- what is joined, and what is left
abbrev pub invariant-loop-test : goal.invariant-loop-test
invariant-loop-test l = all_joined (tests_view l.fn.all) ≡ Some (edges.joined (test_view l.whole) (map test_view l.test-iterator.rest.items))
