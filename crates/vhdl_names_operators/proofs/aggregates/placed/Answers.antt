use Rattle.std.proofs.Common.{◌≡◌, List, Some, None, sym, ap, ◌∙◌}
use Rattle.std.specs.List.{slice_get}
use Rattle.vhdl_names_trees.specs.declared.typed.TypedChoice.{TypedChoice}
use Rattle.vhdl_names_trees.specs.views.Expressions.{typed_view}
use Rattle.vhdl_names_rules.proofs.Along.{gives_along}
use Rattle.vhdl_names_rules.proofs.Telling.{told_same, told_on}
use Rattle.vhdl_names_operators.specs.Arranging as steps
use Rattle.vhdl_names_operators.proofs.Arranging.{placed_next, next_breaks, placed_others, placed_chosen, chosen_breaks}
use Rattle.vhdl_names_operators.proofs.aggregates.placed.Goals as goal

pub returns-in_default : goal.returns-in_default
returns-in_default c =
    let cs = c.args.choices.items in
    let x = typed_view c.args.value in
    let none : slice_get cs 0 ≡ None = ap (λ (ds : List TypedChoice). slice_get ds 0) (sym c.deref.ensures.value) ∙ sym c.in_default.ensures.value in
    record {
      given = gives_along steps.alone _ _ _ (placed_next c.args.kind cs x none) c.listed.ensures.given;
      told = told_on _ _ c.listed.result (λ f t. told_same _ _ f (sym (next_breaks c.args.kind cs c.args.at x none)) t) c.listed.ensures.told;
    }

pub returns-in-Others : goal.returns-in-Others
returns-in-Others c =
    let cs = c.args.choices.items in
    let x = typed_view c.args.value in
    let first = ap (λ (ds : List TypedChoice). slice_get ds 0) (sym c.deref.ensures.value) ∙ sym c.in-Some.ensures.value ∙ ap Some c.in-Others.is in
    record {
      given = gives_along steps.alone _ _ _ (placed_others c.args.kind cs _ x first) c.of_others.ensures.given;
      told = told_on _ _ c.of_others.result (λ f t. told_same _ _ f (sym (chosen_breaks c.args.kind cs _ c.args.at x first)) t) c.of_others.ensures.told;
    }

pub returns-in-Place : goal.returns-in-Place
returns-in-Place c =
    let cs = c.args.choices.items in
    let x = typed_view c.args.value in
    let first = ap (λ (ds : List TypedChoice). slice_get ds 0) (sym c.deref.ensures.value) ∙ sym c.in-Some.ensures.value ∙ ap Some c.in-Place.is in
    record {
      given = gives_along steps.alone _ _ _ (placed_chosen c.args.kind cs _ _ x first) c.at_indexes.ensures.given;
      told = told_on _ _ c.at_indexes.result (λ f t. told_same _ _ f (sym (chosen_breaks c.args.kind cs _ c.args.at x first)) t) c.at_indexes.ensures.told;
    }
