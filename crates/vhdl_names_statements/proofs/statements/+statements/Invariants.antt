use Rattle.std.proofs.Common.{◌≡◌, map, drop}
use Rattle.vhdl_names_rules.specs.Rules.{each}
use Rattle.vhdl_tree.specs.View as tree
use Rattle.vhdl_names_units.specs.views.Sequential as views
use Rattle.vhdl_names_rules.specs.problems.Broken.{any_of}
use Rattle.vhdl_names_units.specs.Lists.{in_turn, one_more}
use Rattle.vhdl_names_statements.specs.steps.Cases as cases
use Rattle.vhdl_names_statements.specs.steps.Sequential as steps
use Rattle.vhdl_names_statements.specs.steps.Told as told
use Rattle.vhdl_names_statements.proofs.steps.Labelling.{behind}
use Rattle.vhdl_names_statements.proofs.statements.+statements.Given as goal

-- what is left, on what is done, gives the whole, and what it breaks first, the whole breaks first
abbrev pub invariant-statements-loop-item : goal.invariant-statements-loop-item
invariant-statements-loop-item l =
    (l.sight ≡ l.fn.sight)
    × (steps.all_labelled l.fn.sight (map tree.sequential_view l.list)
    ≡ behind (views.statements_view l.all) (steps.all_labelled l.fn.sight (map tree.sequential_view (drop l.item-index l.list))))
    × (any_of (told.labelled l.fn.sight) (map tree.sequential_view l.list) ≡ any_of (told.labelled l.fn.sight) (map tree.sequential_view (drop l.item-index l.list)))

abbrev pub invariant-branches-loop-item : goal.invariant-branches-loop-item
invariant-branches-loop-item l =
    (l.sight ≡ l.fn.sight)
    × (each (steps.guarded l.fn.sight) (map tree.conditional_view l.list)
    ≡ in_turn (one_more (steps.guarded l.fn.sight)) (views.branches_view l.all) (map tree.conditional_view (drop l.item-index l.list)))
    × (any_of (told.guarded l.fn.sight) (map tree.conditional_view l.list) ≡ any_of (told.guarded l.fn.sight) (map tree.conditional_view (drop l.item-index l.list)))

abbrev pub invariant-alternatives-loop-item : goal.invariant-alternatives-loop-item
invariant-alternatives-loop-item l =
    (l.sight ≡ l.fn.sight)
    × (each (cases.chosen l.fn.sight l.selected) (map tree.alternative_view l.list)
    ≡ in_turn (one_more (cases.chosen l.fn.sight l.selected)) (views.alternatives_view l.all) (map tree.alternative_view (drop l.item-index l.list)))
    × (any_of (told.alternative l.fn.sight l.selected) (map tree.alternative_view l.list) ≡ any_of (told.alternative l.fn.sight l.selected) (map tree.alternative_view (drop l.item-index l.list)))
