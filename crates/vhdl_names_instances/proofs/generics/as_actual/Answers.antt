use Rattle.std.proofs.Common.{sym, ap, ◌∙◌}
use Rattle.vhdl_names_rules.specs.Instances.{value_as_actual}
use Rattle.vhdl_names_trees.specs.views.Expressions.{typed_view}
use Rattle.vhdl_names_rules.specs.problems.Instances.{given_value}
use Rattle.vhdl_names_units.specs.views.Answers.{fixed_view}
use Rattle.vhdl_names_rules.proofs.Along.{gives_along}
use Rattle.vhdl_names_trees.proofs.rows.Composites.{view_composite}
use Rattle.vhdl_names_operators.proofs.Resolving.{plain}
use Rattle.vhdl_names_expressions.proofs.Breaking.{told_as}
use Rattle.vhdl_names_instances.proofs.Valued.{actual_plain, breaks_plain}
use Rattle.vhdl_names_instances.proofs.generics.as_actual.Goals as goal

pub returns-in-Composite-clause-given : goal.returns-in-Composite-clause-given
returns-in-Composite-clause-given c =
    gives_along fixed_view _ _ _ (ap (value_as_actual c.args.kind) (ap typed_view c.in-Composite.is ∙ view_composite c.in-Composite.start c.in-Composite.elements)) c.aggregate_actual.ensures.given

pub returns-in-Composite-clause-told : goal.returns-in-Composite-clause-told
returns-in-Composite-clause-told c =
    told_as _ _ _ (sym (ap (given_value c.args.kind c.args.at) (ap typed_view c.in-Composite.is ∙ view_composite c.in-Composite.start c.in-Composite.elements))) c.aggregate_actual.ensures.told

pub returns-in_default-clause-given : goal.returns-in_default-clause-given
returns-in_default-clause-given c =
    gives_along fixed_view _ _ _ (actual_plain c.args.kind (typed_view c.args.operand) (plain c.args.operand c.in_default.not-Composite)) c.plain_actual.ensures.given

pub returns-in_default-clause-told : goal.returns-in_default-clause-told
returns-in_default-clause-told c =
    told_as _ _ _ (sym (breaks_plain c.args.kind c.args.at (typed_view c.args.operand) (plain c.args.operand c.in_default.not-Composite))) c.plain_actual.ensures.told
