use Rattle.std.proofs.Common.{◌≡◌, ◌++◌, map}
use Rattle.vhdl_names_trees.specs.views.Tests.{test_view}
use Rattle.vhdl_names_units.specs.views.Sequential.{alternative_view, alternatives_view, branches_view}
use Rattle.vhdl_names_statements.specs.steps.Deciding.{branches_by}
use Rattle.vhdl_names_statements.proofs.selecting.branches_by.Given as goal

-- what is made, and what is left
abbrev pub invariant-loop-alternative : goal.invariant-loop-alternative
invariant-loop-alternative l =
    branches_by l.fn.at (test_view l.fn.first) (alternatives_view l.fn.alternatives)
    ≡ branches_view l.branches ++ branches_by l.at (test_view l.condition) (map alternative_view l.alternative-iterator.rest.items)
