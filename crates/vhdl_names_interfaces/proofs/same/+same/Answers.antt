use Rattle.std.proofs.Common.{sym, ap, ◌∙◌}
use Rattle.std.specs.Prelude.{◌&&◌}
use Rattle.vhdl_tree.specs.declared.expression.Element.{out-Element}
use Rattle.vhdl_tree.specs.View.{view}
use Rattle.vhdl_names_rules.specs.SameText.{same_expr}
use Rattle.vhdl_names_interfaces.proofs.Chained.{chains_same, arguments_same, arguments_plain, arguments_range}
use Rattle.vhdl_names_interfaces.proofs.Elementwise.{alike_elements, aggregates_same, qualified_same, element_same}
use Rattle.vhdl_names_interfaces.proofs.Unlike.{integer_unlike, character_unlike, string_unlike, bits_unlike, name_unlike, parens_unlike, negation_unlike, absolute_unlike, power_unlike, sign_unlike, chain_unlike, aggregate_unlike, qualified_unlike}
use Rattle.vhdl_names_interfaces.proofs.same.+same.Goals as goal

pub same_expr-returns-in-Aggregate-Aggregate : goal.same_expr-returns-in-Aggregate-Aggregate
same_expr-returns-in-Aggregate-Aggregate t c =
    c.same_elements.ensures ∙ aggregates_same _ _ _ _ _ _ c.deref-in-Aggregate-Aggregate.ensures.value c.deref-in-Aggregate-Aggregate-2.ensures.value _ _ c.in-Aggregate-Aggregate.is-0 c.in-Aggregate-Aggregate.is-1

pub same_expr-returns-in-Chain-Chain : goal.same_expr-returns-in-Chain-Chain
same_expr-returns-in-Chain-Chain t c =
    c.same_chain.ensures ∙ chains_same _ _ _ _ _ _ c.in-Chain-Chain.is-0 c.in-Chain-Chain.is-1 c.deref-in-Chain-Chain.ensures c.deref-in-Chain-Chain-2.ensures

pub same_expr-returns-then-is_like : goal.same_expr-returns-then-is_like
same_expr-returns-then-is_like t c =
    let xs = c.deref-then-is_like.result.now in
    let ys = c.deref-then-is_like-2.result.now in
    c.same_elements-then-is_like.ensures ∙ ap (λ b. b && alike_elements xs ys) (sym c.if-is_like.true ∙ c.is_like.ensures)
    ∙ qualified_same c.args.a.now c.args.b.now _ _ xs ys c.deref-then-is_like.ensures.value c.deref-then-is_like-2.ensures.value _ _ _ _ c.in-Qualified-Qualified.is-0 c.in-Qualified-Qualified.is-1

pub same_expr-returns-in_default : goal.same_expr-returns-in_default
same_expr-returns-in_default t c =
    integer_unlike c.in_default.field-0-0 c.args.b.now c.in_default.not-Integer-1 ∙ sym (ap (λ z. same_expr (view z) (view c.args.b.now)) c.in_default.is-0)

pub same_expr-returns-in_default-2 : goal.same_expr-returns-in_default-2
same_expr-returns-in_default-2 t c =
    character_unlike c.in_default.field-0-0 c.in_default.field-1-0 c.args.b.now c.in_default.not-Character-1 ∙ sym (ap (λ z. same_expr (view z) (view c.args.b.now)) c.in_default.is-0)

pub same_expr-returns-in_default-3 : goal.same_expr-returns-in_default-3
same_expr-returns-in_default-3 t c =
    string_unlike c.in_default.field-0-0 c.args.b.now c.in_default.not-StringLiteral-1 ∙ sym (ap (λ z. same_expr (view z) (view c.args.b.now)) c.in_default.is-0)

pub same_expr-returns-in_default-4 : goal.same_expr-returns-in_default-4
same_expr-returns-in_default-4 t c =
    bits_unlike c.in_default.field-0-0 c.args.b.now c.in_default.not-BitString-1 ∙ sym (ap (λ z. same_expr (view z) (view c.args.b.now)) c.in_default.is-0)

pub same_expr-returns-in_default-5 : goal.same_expr-returns-in_default-5
same_expr-returns-in_default-5 t c =
    name_unlike c.in_default.field-0-0 c.args.b.now c.in_default.not-Name-1 ∙ sym (ap (λ z. same_expr (view z) (view c.args.b.now)) c.in_default.is-0)

pub same_expr-returns-in_default-6 : goal.same_expr-returns-in_default-6
same_expr-returns-in_default-6 t c =
    parens_unlike c.in_default.field-0-0 c.in_default.field-1-0 c.args.b.now c.in_default.not-Parens-1 ∙ sym (ap (λ z. same_expr (view z) (view c.args.b.now)) c.in_default.is-0)

pub same_expr-returns-in_default-7 : goal.same_expr-returns-in_default-7
same_expr-returns-in_default-7 t c =
    negation_unlike c.in_default.field-0-0 c.in_default.field-1-0 c.args.b.now c.in_default.not-Not-1 ∙ sym (ap (λ z. same_expr (view z) (view c.args.b.now)) c.in_default.is-0)

pub same_expr-returns-in_default-8 : goal.same_expr-returns-in_default-8
same_expr-returns-in_default-8 t c =
    absolute_unlike c.in_default.field-0-0 c.in_default.field-1-0 c.args.b.now c.in_default.not-Abs-1 ∙ sym (ap (λ z. same_expr (view z) (view c.args.b.now)) c.in_default.is-0)

pub same_expr-returns-in_default-9 : goal.same_expr-returns-in_default-9
same_expr-returns-in_default-9 t c =
    power_unlike c.in_default.field-0-0 c.args.b.now c.in_default.not-Power-1 ∙ sym (ap (λ z. same_expr (view z) (view c.args.b.now)) c.in_default.is-0)

pub same_expr-returns-in_default-10 : goal.same_expr-returns-in_default-10
same_expr-returns-in_default-10 t c =
    sign_unlike c.in_default.field-0-0 c.in_default.field-1-0 c.in_default.field-2-0 c.args.b.now c.in_default.not-Signed-1 ∙ sym (ap (λ z. same_expr (view z) (view c.args.b.now)) c.in_default.is-0)

pub same_expr-returns-in_default-11 : goal.same_expr-returns-in_default-11
same_expr-returns-in_default-11 t c =
    chain_unlike c.in_default.field-0-0 c.args.b.now c.in_default.not-Chain-1 ∙ sym (ap (λ z. same_expr (view z) (view c.args.b.now)) c.in_default.is-0)

pub same_expr-returns-in_default-12 : goal.same_expr-returns-in_default-12
same_expr-returns-in_default-12 t c =
    aggregate_unlike c.in_default.field-0-0 c.in_default.field-1-0 c.args.b.now c.in_default.not-Aggregate-1 ∙ sym (ap (λ z. same_expr (view z) (view c.args.b.now)) c.in_default.is-0)

pub same_expr-returns-in_default-13 : goal.same_expr-returns-in_default-13
same_expr-returns-in_default-13 t c =
    qualified_unlike c.in_default.field-0-0 c.in_default.field-1-0 c.in_default.field-2-0 c.args.b.now c.in_default.not-Qualified-1 ∙ sym (ap (λ z. same_expr (view z) (view c.args.b.now)) c.in_default.is-0)

pub same_element-returns-then-same_choices : goal.same_element-returns-then-same_choices
same_element-returns-then-same_choices t c =
    let same = element_same c.args.a.now c.args.b.now c.deref.result.now c.deref-2.result.now c.deref.ensures.value c.deref-2.ensures.value in
    c.same_expr.ensures
    ∙ ap (λ b. b && same_expr (view (out-Element c.args.a.now).value) (view (out-Element c.args.b.now).value)) (sym c.if-same_choices.true ∙ c.same_choices.ensures) ∙ same

pub same_element-returns-else-same_choices : goal.same_element-returns-else-same_choices
same_element-returns-else-same_choices t c =
    let same = element_same c.args.a.now c.args.b.now c.deref.result.now c.deref-2.result.now c.deref.ensures.value c.deref-2.ensures.value in
    c.if-same_choices.false
    ∙ ap (λ b. b && same_expr (view (out-Element c.args.a.now).value) (view (out-Element c.args.b.now).value)) (sym c.if-same_choices.false ∙ c.same_choices.ensures) ∙ same

pub same_suffix-returns-in-Arguments-Arguments : goal.same_suffix-returns-in-Arguments-Arguments
same_suffix-returns-in-Arguments-Arguments t c =
    c.same_exprs.ensures
    ∙ arguments_same _ _ _ c.in-Arguments-Arguments.is-0 _ _ _ c.in-Arguments-Arguments.is-1 c.deref.ensures.value c.deref-in-Arguments-Arguments.ensures.value

pub same_suffix-returns-in-Arguments-Plain : goal.same_suffix-returns-in-Arguments-Plain
same_suffix-returns-in-Arguments-Plain t c = arguments_plain _ _ _ c.in-Arguments-Plain.is-0 c.in-Arguments-Plain.is-1

pub same_suffix-returns-in-Arguments-Range : goal.same_suffix-returns-in-Arguments-Range
same_suffix-returns-in-Arguments-Range t c = arguments_range _ _ _ c.in-Arguments-Range.is-0 _ c.in-Arguments-Range.is-1
