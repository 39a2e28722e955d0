use Rattle.std.proofs.Common.{◌≡◌, map, drop}
use Rattle.vhdl_tree.specs.View as tree
use Rattle.vhdl_tree.specs.declared.sequential.Case.{out-Case}
use Rattle.vhdl_names_rules.specs.problems.Twice.{twice}
use Rattle.vhdl_names_units.specs.Lists.{in_turn}
use Rattle.vhdl_names_units.specs.Once.{names_view}
use Rattle.vhdl_names.specs.steps.Labels as steps
use Rattle.vhdl_names.proofs.StandingTwice.{of_statements, of_branches, of_alternatives}
use Rattle.vhdl_names.proofs.process_labels.+labels.Given as goal

-- what is left, on what is taken, gives the whole and is told as the whole
abbrev pub invariant-of_statements-loop-item : goal.invariant-of_statements-loop-item
invariant-of_statements-loop-item l =
    (steps.with_statements (names_view l.fn.taken) (map tree.sequential_view l.list)
    ≡ steps.with_statements (names_view l.taken) (map tree.sequential_view (drop l.item-index l.list)))
    × (twice (names_view l.fn.taken) (of_statements (map tree.sequential_view l.list))
    ≡ twice (names_view l.taken) (of_statements (map tree.sequential_view (drop l.item-index l.list))))

abbrev pub invariant-of_branches-loop-item : goal.invariant-of_branches-loop-item
invariant-of_branches-loop-item l =
    (in_turn steps.with_branch (names_view l.fn.taken) (map tree.conditional_view l.list)
    ≡ in_turn steps.with_branch (names_view l.taken) (map tree.conditional_view (drop l.item-index l.list)))
    × (twice (names_view l.fn.taken) (of_branches (map tree.conditional_view l.list))
    ≡ twice (names_view l.taken) (of_branches (map tree.conditional_view (drop l.item-index l.list))))

abbrev pub invariant-of_case-loop-item : goal.invariant-of_case-loop-item
invariant-of_case-loop-item l =
    (in_turn steps.with_alternative (names_view l.fn.taken) (tree.alternatives_view (out-Case l.case).alternatives)
    ≡ in_turn steps.with_alternative (names_view l.taken) (map tree.alternative_view (drop l.item-index (out-Case l.case).alternatives.items)))
    × (twice (names_view l.fn.taken) (of_alternatives (tree.alternatives_view (out-Case l.case).alternatives))
    ≡ twice (names_view l.taken) (of_alternatives (map tree.alternative_view (drop l.item-index (out-Case l.case).alternatives.items))))
