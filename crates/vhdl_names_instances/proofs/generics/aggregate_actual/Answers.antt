use Rattle.std.proofs.Common.{true, false, refl, sym, ap, ◌∙◌}
use Rattle.vhdl_names_rules.specs.declared.fault.NameFault.TheVariants.{At}
use Rattle.vhdl_names_rules.specs.declared.fault.NameProblem.TheVariants.{TypeMismatch, LeftOut}
use Rattle.vhdl_names_rules.specs.Known.{are_known}
use Rattle.vhdl_names_trees.specs.views.Expressions.{typed_elements_view}
use Rattle.vhdl_names_trees.specs.views.Vectors.{elements_view}
use Rattle.vhdl_names_units.specs.views.Answers.{fixed_view}
use Rattle.vhdl_names_rules.proofs.Passing.{passed_on, told_by}
use Rattle.vhdl_names_expressions.proofs.Breaking.{told_fault}
use Rattle.vhdl_names_instances.proofs.Valued.{no_vector, not_arranged, is_arranged, no_vector_told, elements_told, unknown_told}
use Rattle.vhdl_names_instances.proofs.generics.aggregate_actual.Goals as goal

pub returns-then-not-is_vector-clause-given : goal.returns-then-not-is_vector-clause-given
returns-then-not-is_vector-clause-given c = λ n.
    no_vector c.args.kind c.args.at (typed_elements_view c.args.elements.items) (sym c.is_vector.ensures ∙ c.if-not-is_vector.true)

pub returns-then-not-is_vector-clause-told : goal.returns-then-not-is_vector-clause-told
returns-then-not-is_vector-clause-told c =
    no_vector_told c.args.kind c.args.at (typed_elements_view c.args.elements.items) c.args.start c.without.result (sym c.is_vector.ensures ∙ c.if-not-is_vector.true)
    (told_fault _ (At TypeMismatch c.args.at) _ (c.without.ensures ∙ c.at.ensures) refl)

pub returns-in_err-elements-clause-given : goal.returns-in_err-elements-clause-given
returns-in_err-elements-clause-given c =
    let es = typed_elements_view c.args.elements.items in
    passed_on fixed_view _ c.in_err-elements.field-0.0 _ c.from_residual.result c.from_residual.ensures.1 (λ e p. p)
    (λ n. not_arranged c.args.kind c.args.at es (sym c.is_vector.ensures ∙ c.if-not-is_vector.false) (c.in_err-elements.ensures.given n))

pub returns-in_err-elements-clause-told : goal.returns-in_err-elements-clause-told
returns-in_err-elements-clause-told c =
    let f = c.in_err-elements.field-0.0 in
    told_by _ f _ c.from_residual.result c.from_residual.ensures.1 (λ e p. p)
    (elements_told c.args.kind c.args.at (typed_elements_view c.args.elements.items) c.args.start f (sym c.is_vector.ensures ∙ c.if-not-is_vector.false) c.in_err-elements.ensures.told)

pub returns-then-are_known-clause-given : goal.returns-then-are_known-clause-given
returns-then-are_known-clause-given c =
    let all = c.in_ok-elements.elements.items in
    is_arranged c.args.kind c.args.at (typed_elements_view c.args.elements.items) (sym c.is_vector.ensures ∙ c.if-not-is_vector.false) (elements_view all) c.in_ok-elements.ensures.given true
    (ap (λ l. are_known (elements_view l)) (sym c.deref.ensures.value) ∙ sym c.are_known.ensures ∙ c.if-are_known.true)

pub returns-else-are_known-clause-given : goal.returns-else-are_known-clause-given
returns-else-are_known-clause-given c = λ n.
    let all = c.in_ok-elements.elements.items in
    is_arranged c.args.kind c.args.at (typed_elements_view c.args.elements.items) (sym c.is_vector.ensures ∙ c.if-not-is_vector.false) (elements_view all) c.in_ok-elements.ensures.given false
    (ap (λ l. are_known (elements_view l)) (sym c.deref.ensures.value) ∙ sym c.are_known.ensures ∙ c.if-are_known.false)

pub returns-else-are_known-clause-told : goal.returns-else-are_known-clause-told
returns-else-are_known-clause-told c =
    let all = c.in_ok-elements.elements.items in
    unknown_told c.args.kind c.args.at (typed_elements_view c.args.elements.items) c.args.start c.without-else-are_known.result (sym c.is_vector.ensures ∙ c.if-not-is_vector.false)
    (elements_view all) c.in_ok-elements.ensures.given (ap (λ l. are_known (elements_view l)) (sym c.deref.ensures.value) ∙ sym c.are_known.ensures ∙ c.if-are_known.false)
    (told_fault _ (At LeftOut c.args.start) _ (c.without-else-are_known.ensures ∙ c.at-else-are_known.ensures) refl)
