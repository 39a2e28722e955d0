use Rattle.std.proofs.Common.{refl, sym, ap, ◌∙◌}
use Rattle.vhdl_names_rules.specs.declared.fault.NameFault.TheVariants.{At}
use Rattle.vhdl_names_rules.specs.declared.fault.NameProblem.TheVariants.{TypeMismatch}
use Rattle.vhdl_names_rules.specs.Expressions.{as_filled}
use Rattle.vhdl_names_trees.specs.views.Expressions.{typed_view}
use Rattle.vhdl_names_units.specs.views.Answers.{given_view}
use Rattle.vhdl_names_rules.specs.problems.Broken.{lacking}
use Rattle.vhdl_names_rules.proofs.Along.{gives_along}
use Rattle.vhdl_names_asked.specs.Givings.{as_filling}
use Rattle.vhdl_names_expressions.proofs.Breaking.{told_as, told_fault, refused_told}
use Rattle.vhdl_names_asked.proofs.Filling.{are_vectors, no_vectors}
use Rattle.vhdl_names_asked.proofs.Aggregating.{type_filled, none_filled}
use Rattle.vhdl_names_asked.proofs.asked.as_filled.Goals as goal

pub returns-then-is_vector_type-clause-given : goal.returns-then-is_vector_type-clause-given
returns-then-is_vector_type-clause-given c = gives_along given_view _ _ _ (type_filled c.args.object_type (typed_view c.args.operand) (sym c.is_vector_type.ensures ∙ c.if-is_vector_type.true)) c.as_filling.ensures.given

pub returns-then-is_vector_type-clause-told : goal.returns-then-is_vector_type-clause-told
returns-then-is_vector_type-clause-told c =
    let p = c.args.element_at in
    told_as _ _ _ (sym (are_vectors c.args.object_type c.args.at (lacking TypeMismatch p (as_filled c.args.object_type (typed_view c.args.operand))) (sym c.is_vector_type.ensures ∙ c.if-is_vector_type.true) ∙ ap (lacking TypeMismatch p) (type_filled c.args.object_type (typed_view c.args.operand) (sym c.is_vector_type.ensures ∙ c.if-is_vector_type.true))))
    (refused_told given_view TypeMismatch p p (as_filling (typed_view c.args.operand)) _ refl c.as_filling.ensures.given c.as_filling.ensures.told)

pub returns-else-is_vector_type-clause-given : goal.returns-else-is_vector_type-clause-given
returns-else-is_vector_type-clause-given c = λ n. none_filled c.args.object_type (typed_view c.args.operand) (sym c.is_vector_type.ensures ∙ c.if-is_vector_type.false)

pub returns-else-is_vector_type-clause-told : goal.returns-else-is_vector_type-clause-told
returns-else-is_vector_type-clause-told c =
    told_fault _ (At TypeMismatch c.args.at) _ (c.without.ensures ∙ c.at.ensures)
    (no_vectors c.args.object_type c.args.at (lacking TypeMismatch c.args.element_at (as_filled c.args.object_type (typed_view c.args.operand))) (sym c.is_vector_type.ensures ∙ c.if-is_vector_type.false))
