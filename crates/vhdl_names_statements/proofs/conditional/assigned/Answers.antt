use Rattle.std.proofs.Common.{Some, ap, sym, ◌∙◌}
use Rattle.vhdl_tree.specs.View as tree
use Rattle.vhdl_names_rules.specs.Rules.{◌>>=◌}
use Rattle.vhdl_names_rules.specs.Expressions as are
use Rattle.vhdl_names_rules.specs.Statements.{Target, assigned_to, target_by}
use Rattle.vhdl_names_rules.specs.problems.Expressions.{value_assigned}
use Rattle.vhdl_names_rules.specs.problems.Statements as broken
use Rattle.vhdl_names_rules.proofs.Passing.{passed_on, told_by}
use Rattle.vhdl_names_rules.proofs.Telling.{told_same, told_left, told_right, told_given}
use Rattle.vhdl_names_rules.proofs.kept.Statements.{target_by_kept}
use Rattle.vhdl_names_units.specs.views.Answers.{assigned_view}
use Rattle.vhdl_names_units.specs.views.Targets.{target_view}
use Rattle.vhdl_names_units.specs.views.Sequential.{statement_view}
use Rattle.vhdl_names_statements.proofs.steps.Assigning.{by_parts}
use Rattle.vhdl_names_statements.proofs.steps.Wholes.{is_whole}
use Rattle.vhdl_names_statements.proofs.conditional.assigned.Goals as goal

pub returns-in_err-target-clause-told : goal.returns-in_err-target-clause-told
returns-in_err-target-clause-told c =
    let s = c.args.sight.now in
    let b = c.args.is_variable in
    let n = tree.name_view c.args.name.now in
    let v = tree.value_view c.args.value.now in
    told_by _ c.in_err-target.field-0.0 _ c.from_residual.result c.from_residual.ensures.1 (λ e p. p)
    (told_same _ _ c.in_err-target.field-0.0 (sym (by_parts s b n v))
    (told_left (broken.target_by s b n) (broken.given s (target_by s b n) v) c.in_err-target.field-0.0 c.in_err-target.ensures.told))

pub returns-in_err-value-clause-given : goal.returns-in_err-value-clause-given
returns-in_err-value-clause-given c =
    let s = c.args.sight.now in
    let v = tree.value_view c.args.value.now in
    let x = target_view c.in_ok-target.target in
    passed_on statement_view _ c.in_err-value.field-0.0 _ c.from_residual-in_err-value.result c.from_residual-in_err-value.ensures.1 (λ e p. p)
    (λ n. ap (λ o. o >>= λ (x : Target). are.value_assigned s x.type x.range v >>= λ g. Some (assigned_to x g)) c.in_ok-target.ensures.given
    ∙ ap (λ r. are.value_assigned s x.type r v >>= λ g. Some (assigned_to x g)) (sym c.range.ensures)
    ∙ ap (λ o. o >>= λ g. Some (assigned_to x g)) (c.in_err-value.ensures.given n))

pub returns-in_err-value-clause-told : goal.returns-in_err-value-clause-told
returns-in_err-value-clause-told c =
    let s = c.args.sight.now in
    let b = c.args.is_variable in
    let n = tree.name_view c.args.name.now in
    let v = tree.value_view c.args.value.now in
    let x = target_view c.in_ok-target.target in
    let f = c.in_err-value.field-0.0 in
    told_by _ f _ c.from_residual-in_err-value.result c.from_residual-in_err-value.ensures.1 (λ e p. p)
    (told_same _ _ f (sym (by_parts s b n v))
    (told_right (broken.target_by s b n) (broken.given s (target_by s b n) v) f (target_by_kept s b n x c.in_ok-target.ensures.given)
    (told_given (λ (x : Target). value_assigned s x.type x.range v) (target_by s b n) x f c.in_ok-target.ensures.given
    (told_same _ _ f (ap (λ r. value_assigned s x.type r v) c.range.ensures) c.in_err-value.ensures.told))))

pub returns-clause-given : goal.returns-clause-given
returns-clause-given c =
    let s = c.args.sight.now in
    let v = tree.value_view c.args.value.now in
    let x = target_view c.in_ok-target.target in
    ap (λ o. o >>= λ (x : Target). are.value_assigned s x.type x.range v >>= λ g. Some (assigned_to x g)) c.in_ok-target.ensures.given
    ∙ ap (λ r. are.value_assigned s x.type r v >>= λ g. Some (assigned_to x g)) (sym c.range.ensures)
    ∙ ap (λ o. o >>= λ g. Some (assigned_to x g)) c.in_ok-value.ensures.given
    ∙ ap Some (sym c.in_ok-assigned_to.ensures)

pub assigned_to-requires : goal.assigned_to-requires
assigned_to-requires c =
    let s = c.args.sight.now in
    let v = tree.value_view c.args.value.now in
    let x = c.in_ok-target.target in
    is_whole s c.args.is_variable (tree.name_view c.args.name.now) v x (assigned_view c.in_ok-value.value) c.in_ok-target.ensures.given
    (ap (λ r. are.value_assigned s x.object_type r v) (sym c.range.ensures) ∙ c.in_ok-value.ensures.given)
