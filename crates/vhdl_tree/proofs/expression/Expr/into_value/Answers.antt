use Rattle.std.proofs.Common.{◌≡◌, ◌++◌, true, false, map, sym, ap, ap₂, ◌∙◌, subst}
use Rattle.std.specs.Option.{option_to_list}
use Rattle.vhdl_tree.specs.declared.expression.Expr.TheVariants as e
use Rattle.vhdl_tree.specs.Tree.{is_fill, elements_of, single, others}
use Rattle.vhdl_tree.specs.View.{view, element_view}
use Rattle.vhdl_tree.proofs.Roles.{no_aggregate, fill_alone, filled, unfilled}
use Rattle.vhdl_tree.proofs.expression.Expr.into_value.Goals as goal

pub returns-in_default : goal.returns-in_default
returns-in_default c = no_aggregate c.args.self c.in_default.not-Aggregate

pub returns-then-not-is_fill : goal.returns-then-not-is_fill
returns-then-not-is_fill c =
    let v = c.in-Aggregate.elements in
    let other : false ≡ is_fill (elements_of (map element_view v.items)) =
    sym c.if-not-is_fill.true ∙ c.is_fill.ensures ∙ ap (λ xs. is_fill (elements_of (map element_view xs))) (c.deref.ensures.value ∙ ap (λ w. w.items) c.in-Aggregate.elements-is) in
    ap₂ (λ a w. single (view (e.Aggregate a w))) c.in-Aggregate.at-is c.in-Aggregate.elements-is ∙ ap (λ y. single (view y)) (sym c.in-Aggregate.is)
    ∙ unfilled c.args.self c.in-Aggregate.at v c.in-Aggregate.is other

pub returns-in-Some : goal.returns-in-Some
returns-in-Some c =
    let x = c.in-Some.element in
    let v = c.in-Aggregate.elements in
    let fills : true ≡ is_fill (elements_of (map element_view v.items)) =
    sym c.if-not-is_fill.false ∙ c.is_fill.ensures ∙ ap (λ xs. is_fill (elements_of (map element_view xs))) (c.deref.ensures.value ∙ ap (λ w. w.items) c.in-Aggregate.elements-is) in
    let split : v.items ≡ c.pop.new.self.items ++ option_to_list c.pop.result = sym (ap (λ w. w.items) c.in-Aggregate.elements-is) ∙ c.pop.ensures.items in
    let a = fill_alone v.items x c.pop.new.self.items fills (subst (λ o. v.items ≡ c.pop.new.self.items ++ option_to_list o) c.in-Some.is split) in
    ap₂ (λ a y. others a y) c.in-Aggregate.at-is c.into_value.ensures ∙ filled c.args.self c.in-Aggregate.at v x c.in-Aggregate.is a fills
