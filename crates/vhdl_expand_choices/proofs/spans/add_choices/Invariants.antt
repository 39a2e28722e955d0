use Rattle.std.proofs.Common.{◌≡◌, map, drop}
use Rattle.vhdl_names_units.specs.views.Answers.{choice_view}
use Rattle.vhdl_expand_rules.specs.Statements.{choice_spans, choices_spans}
use Rattle.vhdl_expand_rules.specs.views.Integers.{integers_view}
use Rattle.vhdl_expand_numbers.specs.Views.{limits_view}
use Rattle.vhdl_expand_operands.proofs.Several.{behind}
use Rattle.vhdl_expand_choices.specs.Views.{spanned_view}
use Rattle.vhdl_expand_choices.proofs.Joined.{joined}
use Rattle.vhdl_expand_choices.proofs.spans.add_choices.Given as goal

-- those so far, and those that are left
abbrev pub invariant-loop-choice : goal.invariant-loop-choice
invariant-loop-choice l =
    behind (map spanned_view l.fn.spans.items) (choices_spans (integers_view l.integers) (limits_view l.fn.among) (map choice_view l.choices))
    ≡ behind (map spanned_view l.spans.items) (joined (choice_spans (integers_view l.integers) (limits_view l.fn.among)) (map choice_view (drop l.choice-index l.choices)))
