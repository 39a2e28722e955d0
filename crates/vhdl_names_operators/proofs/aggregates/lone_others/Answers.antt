use Rattle.std.proofs.Common.{List, [], ◌∷◌, map, sym, ap, ◌∙◌, arith}
use Rattle.vhdl_names_trees.specs.declared.typed.TypedChoice.{TypedChoice}
use Rattle.vhdl_names_trees.specs.views.Expressions.{choice_view}
use Rattle.vhdl_names_operators.specs.Arranging.{lone_others}
use Rattle.vhdl_names_operators.proofs.Arranging.{none_first, not_lone, one_choice}
use Rattle.vhdl_names_operators.proofs.aggregates.lone_others.Goals as goal

pub returns-then-choices-ne1 : goal.returns-then-choices-ne1
returns-then-choices-ne1 c = not_lone c.args.choices.now (λ one. omega (arith, one, c.if-choices-ne1.true))

pub returns-in_err-first : goal.returns-in_err-first
returns-in_err-first c =
    c.from_residual.ensures ∙ sym (ap (λ (cs : List TypedChoice). lone_others (map choice_view cs)) (none_first c.args.choices.now (sym c.in_err-first.ensures.value)))

pub returns-in-Others : goal.returns-in-Others
returns-in-Others c =
    let all =
    one_choice c.args.choices.now c.in_ok-first.first.now (omega (arith, c.if-choices-ne1.false)) (sym c.in_ok-first.ensures.value) ∙ ap (λ (x : TypedChoice). x ∷ []) c.in-Others.is in
    sym (ap (λ (cs : List TypedChoice). lone_others (map choice_view cs)) all)

pub returns-in-Place : goal.returns-in-Place
returns-in-Place c =
    let all =
    one_choice c.args.choices.now c.in_ok-first.first.now (omega (arith, c.if-choices-ne1.false)) (sym c.in_ok-first.ensures.value) ∙ ap (λ (x : TypedChoice). x ∷ []) c.in-Place.is in
    sym (ap (λ (cs : List TypedChoice). lone_others (map choice_view cs)) all)
