use Rattle.std.proofs.Common.{option_map, sym, ap, ◌∙◌}
use Rattle.vhdl_names_rules.specs.declared.fault.NameFault.TheVariants.{At}
use Rattle.vhdl_names_rules.specs.views.Ranges.{declared_range_view}
use Rattle.vhdl_names_trees.specs.views.Expressions.{typed_view, typed_elements_view}
use Rattle.vhdl_names_rules.specs.problems.Broken.{refused}
use Rattle.vhdl_names_rules.proofs.Along.{gives_along}
use Rattle.vhdl_names_expressions.proofs.Breaking.{told_as, told_fault}
use Rattle.vhdl_names_expressions.proofs.Qualifying.{element_given, element_breaks, vector_known, other_given, other_breaks}
use Rattle.vhdl_names_expressions.proofs.elements.qualified_as.Goals as goal

pub returns-in-ElementType-clause-given : goal.returns-in-ElementType-clause-given
returns-in-ElementType-clause-given c =
    λ n. gives_along typed_view _ _ _ (element_given c.args.mark_at c.args.at c.args.entry.now.meaning (option_map declared_range_view c.args.entry.now.range) (typed_elements_view c.args.elements.items) _ c.in-ElementType.is) c.element_qualified.ensures.given

pub returns-in-ElementType-clause-told : goal.returns-in-ElementType-clause-told
returns-in-ElementType-clause-told c =
    λ n. told_as _ _ _ (sym (element_breaks c.args.mark_at c.args.at c.args.entry.now.meaning (option_map declared_range_view c.args.entry.now.range) (typed_elements_view c.args.elements.items) _ c.in-ElementType.is)) c.element_qualified.ensures.told

pub vector_qualified-requires : goal.vector_qualified-requires
vector_qualified-requires c = record { kind = vector_known _ _ _ c.in-VectorType.is }

pub returns-in_default-clause-given : goal.returns-in_default-clause-given
returns-in_default-clause-given c =
    λ n w. other_given c.args.mark_at c.args.at c.args.entry.now.meaning (option_map declared_range_view c.args.entry.now.range) (typed_elements_view c.args.elements.items) c.in_default.not-ElementType c.in_default.not-VectorType

pub returns-in_default-clause-told : goal.returns-in_default-clause-told
returns-in_default-clause-told c =
    λ n. told_fault _ (At c.qualified_problem.result c.args.mark_at) _ (c.without.ensures ∙ c.at.ensures)
    (other_breaks c.args.mark_at c.args.at c.args.entry.now.meaning (option_map declared_range_view c.args.entry.now.range) (typed_elements_view c.args.elements.items) c.in_default.not-ElementType c.in_default.not-VectorType ∙ ap (λ p. refused p c.args.mark_at) (sym c.qualified_problem.ensures))
