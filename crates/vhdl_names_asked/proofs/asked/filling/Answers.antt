use Rattle.std.proofs.Common.{arith, sym, ap, ◌∙◌}
use Rattle.vhdl_names_trees.specs.views.Expressions.{typed_elements_view}
use Rattle.vhdl_names_asked.specs.Givings.{is_filling}
use Rattle.vhdl_names_asked.proofs.Others.{filling_first, filling_taken, not_filling}
use Rattle.vhdl_names_asked.proofs.asked.filling.Goals as goal

pub returns-then-not-is_filling : goal.returns-then-not-is_filling
returns-then-not-is_filling c = sym (not_filling (typed_elements_view c.args.elements.items) (ap (λ es. is_filling (typed_elements_view es)) (sym c.deref.ensures.value) ∙ sym c.is_filling.ensures ∙ c.if-not-is_filling.true))

pub swap_remove-element-requires : goal.swap_remove-element-requires
swap_remove-element-requires c =
    let some = filling_first c.args.elements.items (ap (λ es. is_filling (typed_elements_view es)) (sym c.deref.ensures.value) ∙ sym c.is_filling.ensures ∙ c.if-not-is_filling.false) in
    omega (arith, some, c.args.elements.ok.0)

pub returns : goal.returns
returns c = sym (filling_taken c.args.elements.items c.swap_remove-element.result (ap (λ es. is_filling (typed_elements_view es)) (sym c.deref.ensures.value) ∙ sym c.is_filling.ensures ∙ c.if-not-is_filling.false) c.swap_remove-element.ensures.value)
