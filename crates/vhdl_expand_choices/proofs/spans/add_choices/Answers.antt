use Rattle.std.proofs.Common.{map, arith}
use Rattle.vhdl_names_units.specs.views.Answers.{choice_view}
use Rattle.vhdl_expand_rules.specs.Statements.{choice_spans}
use Rattle.vhdl_expand_rules.specs.views.Integers.{integers_view}
use Rattle.vhdl_expand_rules.proofs.Items.{none_left}
use Rattle.vhdl_expand_numbers.specs.Views.{limits_view}
use Rattle.vhdl_expand_operands.proofs.Passing.{passed_on}
use Rattle.vhdl_expand_choices.specs.Views.{spanned_view}
use Rattle.vhdl_expand_choices.proofs.Joined.{joined_goes, joined_stops, joined_ends}
use Rattle.vhdl_expand_choices.proofs.spans.add_choices.Goals as goal

pub loop-choice-preserved : goal.loop-choice-preserved
loop-choice-preserved c =
    joined_goes (choice_spans (integers_view c.args.integers.now) (limits_view c.args.among)) choice_view _ (map spanned_view c.loop-choice.spans.items) c.args.choices.now c.loop-choice.choice-index c.choice-item.result
    (omega arith) c.choice-item.is c.loop-choice.invariant _ c.in_ok-add_choice.ensures

pub returns-in_err-add_choice : goal.returns-in_err-add_choice
returns-in_err-add_choice c =
    passed_on _ _ c.in_err-add_choice.field-0.0 _ c.from_residual.result c.from_residual.ensures.1 (λ e p. p)
    (λ n. joined_stops (choice_spans (integers_view c.args.integers.now) (limits_view c.args.among)) choice_view _ (map spanned_view c.loop-choice.spans.items) c.args.choices.now c.loop-choice.choice-index c.choice-item.result
    (omega arith) c.choice-item.is c.loop-choice.invariant (c.in_err-add_choice.ensures n))

pub returns : goal.returns
returns c =
    joined_ends (choice_spans (integers_view c.args.integers.now) (limits_view c.args.among)) choice_view _ (map spanned_view c.loop-choice.spans.items) _
    (none_left c.args.choices.now c.loop-choice.choice-index (omega arith)) c.loop-choice.invariant
