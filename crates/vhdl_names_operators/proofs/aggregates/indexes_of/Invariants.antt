use Rattle.std.proofs.Common.{◌≡◌, ◌++◌, map}
use Rattle.vhdl_names_rules.specs.Aggregates as rules
use Rattle.vhdl_names_trees.specs.views.Integers.{index_view}
use Rattle.vhdl_names_trees.specs.views.Expressions.{choice_view}
use Rattle.vhdl_names_operators.proofs.aggregates.indexes_of.Given as goal

-- the indexes so far, and those that are left
abbrev pub invariant-loop-choice : goal.invariant-loop-choice
invariant-loop-choice l =
    rules.indexes_of (map choice_view l.fn.choices.items) ≡ map index_view l.indexes.items ++ rules.indexes_of (map choice_view l.choice-iterator.rest.items)
