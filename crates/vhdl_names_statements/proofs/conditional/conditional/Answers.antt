use Rattle.std.proofs.Common.{arith, ◌<◌, length, map, Some, ap, sym, ◌∙◌}
use Rattle.std.specs.Prelude.{option_map}
use Rattle.vhdl_tree.specs.View as tree
use Rattle.vhdl_names_rules.specs.problems.Statements as broken
use Rattle.vhdl_names_rules.proofs.Telling.{told_on}
use Rattle.vhdl_names_rules.proofs.Passing.{passed_on, told_first}
use Rattle.vhdl_names_statements.proofs.steps.Assigning.{alone_told, told_behind}
use Rattle.vhdl_names_statements.proofs.steps.Conditional.{refused_target, target_there}
use Rattle.vhdl_names_statements.proofs.steps.Told.{none_below, on_along}
use Rattle.vhdl_names_statements.proofs.conditional.conditional.Goals as goal

pub returns-in_err-is_target-clause-given : goal.returns-in_err-is_target-clause-given
returns-in_err-is_target-clause-given c =
    passed_on _ _ c.in_err-is_target.field-0.0 _ c.from_residual.result c.from_residual.ensures.1 (λ e p. p)
    (λ n. refused_target c.args.sight.now c.args.is_variable (tree.name_view c.args.target.now) (map tree.branch_view c.args.list.now)
    (option_map tree.value_view c.args.value.now) (c.in_err-is_target.ensures.given n))

pub returns-in_err-is_target-clause-told : goal.returns-in_err-is_target-clause-told
returns-in_err-is_target-clause-told c = told_first _ _ _ _ c.from_residual.result c.from_residual.ensures.1 (λ e p. p) c.in_err-is_target.ensures.told

pub returns-in-empty-Some-clause-told : goal.returns-in-empty-Some-clause-told
returns-in-empty-Some-clause-told c =
    let s = c.args.sight.now in
    let b = c.args.is_variable in
    let n = tree.name_view c.args.target.now in
    let v = tree.value_view c.in-empty-Some.value in
    let few : length c.args.list.now < 1 = omega arith in
    on_along _ _ _
    (alone_told s b n v
    ∙ ap (λ xs. broken.conditional s b n (map tree.branch_view xs) (Some v)) (sym (none_below c.args.list.now few))
    ∙ ap (λ o. broken.conditional s b n (map tree.branch_view c.args.list.now) (option_map tree.value_view o)) (sym c.in-empty-Some.is-1))
    c.assigned.ensures.told

pub returns-in_default-clause-told : goal.returns-in_default-clause-told
returns-in_default-clause-told c =
    let s = c.args.sight.now in
    let b = c.args.is_variable in
    let n = tree.name_view c.args.target.now in
    let x = target_there s b n _ c.in_ok-is_target.ensures.given in
    told_on _ _ _ (λ f h. told_behind s b n x.0 x.1 (map tree.branch_view c.args.list.now) (option_map tree.value_view c.args.value.now) f h) c.branched.ensures.told
