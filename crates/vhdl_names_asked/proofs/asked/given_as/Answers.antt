use Rattle.std.proofs.Common.{refl, sym, ap, option_map, ◌∙◌}
use Rattle.vhdl_names_rules.specs.declared.fault.NameProblem.TheVariants.{TypeMismatch}
use Rattle.vhdl_names_rules.specs.Expressions.{as_value}
use Rattle.vhdl_names_trees.specs.views.Integers.{target_range_view}
use Rattle.vhdl_names_trees.specs.views.Expressions.{typed_view, typed_elements_view}
use Rattle.vhdl_names_units.specs.views.Answers.{given_view}
use Rattle.vhdl_names_rules.specs.problems.Aggregates as aggregates
use Rattle.vhdl_names_rules.specs.problems.Expressions as broken
use Rattle.vhdl_names_rules.proofs.Along.{gives_along}
use Rattle.vhdl_names_trees.proofs.rows.Composites.{view_composite}
use Rattle.vhdl_names_operators.proofs.Resolving.{plain}
use Rattle.vhdl_names_asked.specs.Givings.{plain_value}
use Rattle.vhdl_names_expressions.proofs.Breaking.{told_as, refused_told}
use Rattle.vhdl_names_asked.proofs.Aggregating.{some_of, composite_value, value_plain, value_breaks}
use Rattle.vhdl_names_asked.proofs.asked.given_as.Goals as goal

pub returns-in-Composite-clause-given : goal.returns-in-Composite-clause-given
returns-in-Composite-clause-given c =
    gives_along given_view _ _ _ (ap (as_value c.args.object_type (option_map target_range_view c.args.range)) (ap typed_view c.in-Composite.is ∙ view_composite c.in-Composite.start c.in-Composite.elements)
    ∙ composite_value c.args.object_type (option_map target_range_view c.args.range) c.in-Composite.start (typed_elements_view c.in-Composite.elements.items)) c.given_composite.ensures.given

pub returns-in-Composite-clause-told : goal.returns-in-Composite-clause-told
returns-in-Composite-clause-told c =
    told_as _ _ _ (sym (ap (broken.given c.args.object_type (option_map target_range_view c.args.range) c.args.at) (ap typed_view c.in-Composite.is ∙ view_composite c.in-Composite.start c.in-Composite.elements)
    ∙ ap (λ b. aggregates.composite c.args.object_type c.in-Composite.start b (typed_elements_view c.in-Composite.elements.items)) (some_of target_range_view c.args.range))) c.given_composite.ensures.told

pub returns-in_default-clause-given : goal.returns-in_default-clause-given
returns-in_default-clause-given c =
    gives_along given_view _ _ _ (value_plain c.args.object_type (option_map target_range_view c.args.range) (typed_view c.args.operand) (plain c.args.operand c.in_default.not-Composite)) c.as_plain.ensures.given

pub returns-in_default-clause-told : goal.returns-in_default-clause-told
returns-in_default-clause-told c =
    told_as _ _ _ (sym (value_breaks c.args.object_type (option_map target_range_view c.args.range) c.args.at (typed_view c.args.operand) (plain c.args.operand c.in_default.not-Composite)))
    (refused_told given_view TypeMismatch c.args.at c.args.at (plain_value c.args.object_type (typed_view c.args.operand)) _ refl c.as_plain.ensures.given c.as_plain.ensures.told)
