use Rattle.std.proofs.Common.{◌≡◌, map, sym, ap, ◌∙◌}
use Rattle.rtl_model.specs.bodies.Body as bodies
use Rattle.vhdl_names_trees.specs.declared.vector.Value.{Value}
use Rattle.vhdl_names_trees.specs.views.Vectors.{computed_view, value_view}
use Rattle.vhdl_names_units.specs.declared.sequential.Case.{out-Case}
use Rattle.vhdl_names_units.specs.views.Answers.{choice_view, choices_view}
use Rattle.vhdl_names_units.specs.views.Sequential.{alternative_view, alternatives_view}
use Rattle.vhdl_expand_rules.proofs.Steps.{given}
use Rattle.vhdl_expand_numbers.specs.declared.bounded.Number.{Number}
use Rattle.vhdl_expand_numbers.specs.Views.{limits_view, number_view}
use Rattle.vhdl_expand_operands.specs.Operands.{operand_view}
use Rattle.vhdl_expand_operands.proofs.Passing.{passed_on, made_by, refused_by}
use Rattle.vhdl_expand_choices.specs.Views.{all_choices, served, spread_by}
use Rattle.vhdl_expand_bodies.specs.Sites.{site_view}
use Rattle.vhdl_expand_statements.specs.steps.Statements as steps
use Rattle.vhdl_expand_statements.proofs.Selecting.{number_selected, number_unserved}
use Rattle.vhdl_expand_statements.proofs.cases.selector.Goals as goal

pub returns-in_err-number-in-Computed-2 : goal.returns-in_err-number-in-Computed-2
returns-in_err-number-in-Computed-2 c =
    let here = site_view c.args.site.now in
    let case = out-Case c.args.selection.now in
    let gs = alternatives_view case.alternatives in
    let ds = choices_view case.last in
    let of = c.of-numbers.result in
    let lent : served here.integers case.at (limits_view of.among) (limits_view of.all) (all_choices gs) ds ≡ served here.integers case.at (limits_view of.among) (limits_view of.all) (all_choices (map alternative_view c.deref.result.now)) (map choice_view c.deref-in-Computed.result.now)
    = λ i. served here.integers case.at (limits_view of.among) (limits_view of.all) (all_choices (map alternative_view (sym c.deref.ensures.value i))) (map choice_view (sym c.deref-in-Computed.ensures.value i)) in
    passed_on _ _ c.in_err-number-in-Computed-2.field-0.0 _ c.from_residual-in_err-number-in-Computed-2.result c.from_residual-in_err-number-in-Computed-2.ensures.1 (λ e p. p)
    (λ n. ap (λ (v : Value). steps.selector here case.at (value_view v) gs ds) c.in-Computed.is
    ∙ number_unserved here case.at (computed_view c.in-Computed.integer) gs ds (number_view c.in_ok-number-in-Computed.number) (limits_view of.among) (limits_view of.all) of.width.len
    c.in_ok-number-in-Computed.ensures c.of-numbers.ensures.among c.of-numbers.ensures.all (lent ∙ refused_by _ _ _ _ c.in_err-number-in-Computed-2.ensures.fault c.serve-served.ensures n))

pub returns-in_ok-number-in-Computed-2 : goal.returns-in_ok-number-in-Computed-2
returns-in_ok-number-in-Computed-2 c =
    let here = site_view c.args.site.now in
    let case = out-Case c.args.selection.now in
    let gs = alternatives_view case.alternatives in
    let ds = choices_view case.last in
    let of = c.of-numbers.result in
    let lent : served here.integers case.at (limits_view of.among) (limits_view of.all) (all_choices gs) ds ≡ served here.integers case.at (limits_view of.among) (limits_view of.all) (all_choices (map alternative_view c.deref.result.now)) (map choice_view c.deref-in-Computed.result.now)
    = λ i. served here.integers case.at (limits_view of.among) (limits_view of.all) (all_choices (map alternative_view (sym c.deref.ensures.value i))) (map choice_view (sym c.deref-in-Computed.ensures.value i)) in
    ap (λ (v : Value). steps.selector here case.at (value_view v) gs ds) c.in-Computed.is
    ∙ number_selected here case.at (computed_view c.in-Computed.integer) gs ds (number_view c.in_ok-number-in-Computed.number) (limits_view of.among) (limits_view of.all) of.width.len
    c.in_ok-number-in-Computed.ensures c.of-numbers.ensures.among c.of-numbers.ensures.all c.of-numbers.ensures.width (lent ∙ made_by _ _ _ _ c.in_ok-number-in-Computed-2.ensures.both.0 c.serve-served.ensures)
    ∙ ap (λ (e : bodies.Value). given (e, spread_by here.integers of)) (ap (λ (k : Number). bodies.elements (operand_view k.operand)) c.in_ok-number-in-Computed-2.ensures.both.1 ∙ sym c.elements_of.ensures)
