use Rattle.std.proofs.Common.{◌≡◌, ◌++◌, map, drop}
use Rattle.std.specs.Prelude.{option_map}
use Rattle.vhdl_names_trees.specs.views.Integers.{index_view}
use Rattle.vhdl_expand_rules.specs.Aggregates.{chosen_indexes}
use Rattle.vhdl_expand_rules.specs.views.Integers.{integers_view}
use Rattle.vhdl_expand_operands.specs.Placings.{indexes_view}
use Rattle.vhdl_expand_operands.proofs.Several.{behind}
use Rattle.vhdl_expand_choices.proofs.indexes.chosen_indexes.Given as goal

-- those so far, and those that are left, where those so far are taken too
abbrev pub invariant-loop-choice : goal.invariant-loop-choice
invariant-loop-choice l = record {
  rest : chosen_indexes (integers_view l.integers) (option_map indexes_view l.all) l.fn.taken.items (map index_view l.choices)
      ≡ behind l.found.items (chosen_indexes (integers_view l.integers) (option_map indexes_view l.all) l.taken.items (map index_view (drop l.choice-index l.choices)));
  taken : l.taken.items ≡ l.fn.taken.items ++ l.found.items;
}
