use Rattle.std.proofs.Common.{◌≡◌, map, drop}
use Rattle.vhdl_names_units.specs.views.Sequential.{Chosen, alternative_view}
use Rattle.vhdl_expand_rules.specs.Statements.{choices_spans}
use Rattle.vhdl_expand_rules.specs.views.Integers.{integers_view}
use Rattle.vhdl_expand_numbers.specs.Views.{limits_view}
use Rattle.vhdl_expand_operands.proofs.Several.{behind}
use Rattle.vhdl_expand_choices.specs.Views.{spanned_view, all_choices}
use Rattle.vhdl_expand_choices.proofs.Joined.{joined}
use Rattle.vhdl_expand_choices.proofs.spans.add_alternatives.Given as goal

-- those so far, and those that are left
abbrev pub invariant-loop-alternative : goal.invariant-loop-alternative
invariant-loop-alternative l =
    behind (map spanned_view l.fn.spans.items) (choices_spans (integers_view l.integers) (limits_view l.fn.among) (all_choices (map alternative_view l.alternatives)))
    ≡ behind (map spanned_view l.spans.items)
    (joined (λ (g : Chosen). choices_spans (integers_view l.integers) (limits_view l.fn.among) g.choices) (map alternative_view (drop l.alternative-index l.alternatives)))
