use Rattle.vhdl_names_rules.specs.Subtypes.{form_range}
use Rattle.vhdl_names_rules.specs.problems.Broken.{of_any}
use Rattle.vhdl_names_rules.specs.problems.Subtypes as subtypes_broken
use Rattle.vhdl_tree.specs.View as tree
use Rattle.vhdl_names_units.specs.views.Answers.{subtype_view}
use Rattle.std.proofs.Common.{ap}
use Rattle.vhdl_names_rules.proofs.Passing.{told_first}
use Rattle.vhdl_names_rules.proofs.Telling.{told_same}
use Rattle.vhdl_names_declarations.proofs.Breaking.{behind_object}
use Rattle.vhdl_names_declarations.proofs.objects.object_type.Goals as goal

pub returns-in_err-subtype-clause-told : goal.returns-in_err-subtype-clause-told
returns-in_err-subtype-clause-told c = told_first _ _ _ _ c.from_residual.result c.from_residual.ensures.1 (λ e p. p) c.in_err-subtype.ensures.told

pub returns-in_err-default-clause-told : goal.returns-in_err-default-clause-told
returns-in_err-default-clause-told c =
    behind_object c.args.sight.now (tree.subtype_view c.args.indication.now) (λ x. of_any (subtypes_broken.fixed_value c.args.sight.now x.type (form_range x.form)) (tree.option_value_view c.args.value.now)) (subtype_view c.in_ok-subtype.subtype) _ _
    c.from_residual-in_err-default.result c.from_residual-in_err-default.ensures.1 (λ e p. p) c.in_ok-subtype.ensures.given
    (told_same _ _ c.in_err-default.field-0.0 (ap (λ r. of_any (subtypes_broken.fixed_value c.args.sight.now c.in_ok-subtype.subtype.object_type r) (tree.option_value_view c.args.value.now)) c.range.ensures) c.in_err-default.ensures.told)
