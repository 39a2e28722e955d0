use Rattle.std.proofs.Common.{◌≡◌, drop, map}
use Rattle.vhdl_tree.specs.View.{choice_view as tree_choice_view}
use Rattle.vhdl_names_rules.specs.Choices.{choice}
use Rattle.vhdl_names_rules.specs.Rules.{each}
use Rattle.vhdl_names_rules.specs.problems.Broken.{any_of}
use Rattle.vhdl_names_rules.specs.problems.Choices as broken
use Rattle.vhdl_names_units.specs.views.Answers.{choices_view}
use Rattle.vhdl_names_expressions.proofs.Each.{behind}
use Rattle.vhdl_names_values.proofs.alternatives.each_choice.Given as goal

-- what is done, and then the choices that are left, is the whole, and what they break first, the whole breaks first
abbrev pub invariant-loop-one : goal.invariant-loop-one
invariant-loop-one l =
    (each (choice l.sight l.object_type) (map tree_choice_view l.all)
    ≡ behind (choices_view l.done) (each (choice l.sight l.object_type) (map tree_choice_view (drop l.one-index l.all))))
    × (any_of (broken.choice l.sight l.object_type) (map tree_choice_view l.all)
    ≡ any_of (broken.choice l.sight l.object_type) (map tree_choice_view (drop l.one-index l.all)))
