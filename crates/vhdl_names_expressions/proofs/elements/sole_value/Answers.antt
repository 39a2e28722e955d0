use Rattle.std.proofs.Common.{arith, sym, ap, ◌∙◌}
use Rattle.vhdl_names_trees.specs.views.Expressions.{typed_elements_view}
use Rattle.vhdl_names_expressions.specs.Elements.{is_sole}
use Rattle.vhdl_names_expressions.proofs.Soles.{sole_first, sole_taken, not_sole}
use Rattle.vhdl_names_expressions.proofs.elements.sole_value.Goals as goal

pub returns-then-not-is_sole : goal.returns-then-not-is_sole
returns-then-not-is_sole c = sym (not_sole (typed_elements_view c.args.elements.items) (ap (λ es. is_sole (typed_elements_view es)) (sym c.deref.ensures.value) ∙ sym c.is_sole.ensures ∙ c.if-not-is_sole.true))

pub swap_remove-element-requires : goal.swap_remove-element-requires
swap_remove-element-requires c =
    let some = sole_first c.args.elements.items (ap (λ es. is_sole (typed_elements_view es)) (sym c.deref.ensures.value) ∙ sym c.is_sole.ensures ∙ c.if-not-is_sole.false) in
    omega (arith, some, c.args.elements.ok.0)

pub returns : goal.returns
returns c = sym (sole_taken c.args.elements.items c.swap_remove-element.result (ap (λ es. is_sole (typed_elements_view es)) (sym c.deref.ensures.value) ∙ sym c.is_sole.ensures ∙ c.if-not-is_sole.false) c.swap_remove-element.ensures.value)
