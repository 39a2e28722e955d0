use Rattle.std.proofs.Common.{◌≡◌, List, map, subst}
use Rattle.vhdl_names_trees.specs.declared.typed.TypedChoice.{TypedChoice}
use Rattle.vhdl_names_rules.specs.problems.Broken.{Tells, nothing}
use Rattle.vhdl_names_rules.specs.problems.Aggregates as broken
use Rattle.vhdl_names_trees.specs.views.Expressions.{choice_view}
use Rattle.vhdl_names_rules.proofs.Along.{gives_along}
use Rattle.vhdl_names_rules.proofs.Passing.{passed_on, told_by}
use Rattle.vhdl_names_rules.proofs.Telling.{told_left, told_right, told_on}
use Rattle.vhdl_names_operators.specs.Arranging as steps
use Rattle.vhdl_names_operators.specs.Arranging.{element_view}
use Rattle.vhdl_names_operators.proofs.Arranging.{gives_none, element_kept, placed_is}
use Rattle.vhdl_names_operators.proofs.aggregates.element.Goals as goal

pub returns-in_err-choices : goal.returns-in_err-choices
returns-in_err-choices c =
    let f = c.in_err-choices.field-0.0 in
    let form = c.args.form in
    let e = element_view c.args.element in
    let told =
    told_left _ (broken.value c.args.kind e.choices e.at e.value) f
    (subst (λ (cs : List TypedChoice). Tells (steps.choices form.is_ranged form.is_named form.is_only (map choice_view cs) e.at c.args.is_last) f) c.deref.ensures.value c.in_err-choices.ensures.told) in
    record {
      given =
          passed_on steps.alone _ f _ c.from_residual.result c.from_residual.ensures.1 (λ e p. p)
          (λ n. gives_none (steps.element_breaks c.args.kind form.is_ranged form.is_named form.is_only c.args.is_last e) f _
          (element_kept c.args.kind form.is_ranged form.is_named form.is_only c.args.is_last e) told n);
      told = told_by _ f _ c.from_residual.result c.from_residual.ensures.1 (λ e p. p) told;
    }

pub returns : goal.returns
returns c =
    let form = c.args.form in
    let e = element_view c.args.element in
    let kept =
    subst (λ (cs : List TypedChoice). steps.choices form.is_ranged form.is_named form.is_only (map choice_view cs) e.at c.args.is_last ≡ nothing) c.deref.ensures.value c.in_ok-choices.ensures.kept in
    record {
      given = gives_along steps.alone _ _ _ (placed_is c.args.kind form.is_ranged form.is_named form.is_only c.args.is_last e kept) c.placed.ensures.given;
      told = told_on _ _ c.placed.result (λ f t. told_right _ _ f kept t) c.placed.ensures.told;
    }
