use Rattle.std.proofs.Common.{◌≤◌, length, sym, ◌∙◌, arith}
use Rattle.vhdl_names_rules.specs.declared.fault.NameProblem.TheVariants.{WrongKind}
use Rattle.vhdl_names_rules.proofs.Passing.{told_by}
use Rattle.vhdl_names_rules.proofs.Telling.{both_kept, behind_kept, unless_kept, told_left, told_right, told_same}
use Rattle.vhdl_names_operators.proofs.Arranging.{not_holds, not_fails, tells_first, next_kept, none_kept}
use Rattle.vhdl_names_operators.proofs.aggregates.chosen.Goals as goal

pub loop-each-preserved : goal.loop-each-preserved
loop-each-preserved c =
    c.loop-each.invariant
    ∙ next_kept c.args.form.is_only c.args.choices.now c.loop-each.each-index c.each-item.result c.loop-each-test.true c.each-item.is
    ∙ behind_kept _ _ c.in_ok-choice.ensures.kept

pub returns-in_err-choice-clause-told : goal.returns-in_err-choice-clause-told
returns-in_err-choice-clause-told c =
    let f = c.in_err-choice.field-0.0 in
    told_by _ f _ c.from_residual.result c.from_residual.ensures.1 (λ e p. p)
    (told_right _ _ f (unless_kept WrongKind c.args.at c.args.form.is_named (not_fails _ c.if-not-form.false))
    (told_same _ _ f
    (sym (c.loop-each.invariant ∙ next_kept c.args.form.is_only c.args.choices.now c.loop-each.each-index c.each-item.result c.loop-each-test.true c.each-item.is))
    (told_left _ _ f c.in_err-choice.ensures.told)))

pub returns-clause-kept : goal.returns-clause-kept
returns-clause-kept c =
    let past : length c.args.choices.now ≤ c.loop-each.each-index = omega arith in
    both_kept _ _ (unless_kept WrongKind c.args.at c.args.form.is_named (not_fails _ c.if-not-form.false))
    (c.loop-each.invariant ∙ none_kept c.args.form.is_only c.args.choices.now c.loop-each.each-index past)

pub returns-then-not-form-clause-told : goal.returns-then-not-form-clause-told
returns-then-not-form-clause-told c = tells_first WrongKind c.args.at c.args.form.is_named _ _ (not_holds _ c.if-not-form.true) c.at.ensures
