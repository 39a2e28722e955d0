use Rattle.std.proofs.Common.{map, ap, sym, ◌∙◌, arith}
use Rattle.vhdl_names_units.specs.views.Answers.{choice_view}
use Rattle.vhdl_names_units.specs.views.Sequential.{Chosen, alternative_view}
use Rattle.vhdl_expand_rules.specs.Statements.{choices_spans}
use Rattle.vhdl_expand_rules.specs.views.Integers.{integers_view}
use Rattle.vhdl_expand_rules.proofs.Items.{none_left}
use Rattle.vhdl_expand_numbers.specs.Views.{limits_view}
use Rattle.vhdl_expand_operands.proofs.Several.{behind}
use Rattle.vhdl_expand_operands.proofs.Passing.{passed_on}
use Rattle.vhdl_expand_choices.specs.Views.{spanned_view}
use Rattle.vhdl_expand_choices.proofs.Joined.{joined_goes, joined_stops, joined_ends, of_alternatives}
use Rattle.vhdl_expand_choices.proofs.spans.add_alternatives.Goals as goal

pub loop-alternative-init : goal.loop-alternative-init
loop-alternative-init c =
    ap (behind (map spanned_view c.args.spans.now.items)) (of_alternatives (integers_view c.args.integers.now) (limits_view c.args.among) (map alternative_view c.args.alternatives.now))

pub loop-alternative-preserved : goal.loop-alternative-preserved
loop-alternative-preserved c =
    joined_goes (λ (g : Chosen). choices_spans (integers_view c.args.integers.now) (limits_view c.args.among) g.choices) alternative_view _ (map spanned_view c.loop-alternative.spans.items) c.args.alternatives.now c.loop-alternative.alternative-index c.alternative-item.result
    (omega arith) c.alternative-item.is c.loop-alternative.invariant _
    (ap (λ xs. behind (map spanned_view c.loop-alternative.spans.items) (choices_spans (integers_view c.args.integers.now) (limits_view c.args.among) (map choice_view xs))) (sym c.deref.ensures.value) ∙ c.in_ok-add_choices.ensures)

pub returns-in_err-add_choices : goal.returns-in_err-add_choices
returns-in_err-add_choices c =
    passed_on _ _ c.in_err-add_choices.field-0.0 _ c.from_residual.result c.from_residual.ensures.1 (λ e p. p)
    (λ n. joined_stops (λ (g : Chosen). choices_spans (integers_view c.args.integers.now) (limits_view c.args.among) g.choices) alternative_view _ (map spanned_view c.loop-alternative.spans.items) c.args.alternatives.now c.loop-alternative.alternative-index c.alternative-item.result
    (omega arith) c.alternative-item.is c.loop-alternative.invariant
    (ap (λ xs. behind (map spanned_view c.loop-alternative.spans.items) (choices_spans (integers_view c.args.integers.now) (limits_view c.args.among) (map choice_view xs))) (sym c.deref.ensures.value) ∙ c.in_err-add_choices.ensures n))

pub returns : goal.returns
returns c =
    joined_ends (λ (g : Chosen). choices_spans (integers_view c.args.integers.now) (limits_view c.args.among) g.choices) alternative_view _ (map spanned_view c.loop-alternative.spans.items) _
    (none_left c.args.alternatives.now c.loop-alternative.alternative-index (omega arith)) c.loop-alternative.invariant
