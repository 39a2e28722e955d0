use Rattle.vhdl_names_rules.specs.problems.Broken.{◌▸◌, lacking, of_any}
use Rattle.vhdl_names_rules.specs.problems.Declarations as broken
use Rattle.std.proofs.Common.{ap}
use Rattle.vhdl_names_rules.specs.problems.Subtypes as subtypes_broken
use Rattle.vhdl_names_rules.proofs.Telling.{told_same, told_left, told_right, told_lacking, lacking_kept}
use Rattle.vhdl_names_rules.specs.declared.fault.NameProblem.TheVariants.{LeftOut}
use Rattle.vhdl_names_rules.specs.Declarations.{as_port_type}
use Rattle.vhdl_tree.specs.View as tree
use Rattle.vhdl_names_units.specs.views.Answers.{subtype_view}
use Rattle.vhdl_names_rules.proofs.Passing.{told_first}
use Rattle.vhdl_names_declarations.proofs.Breaking.{behind_object}
use Rattle.vhdl_names_declarations.proofs.ports.port_type.Goals as goal

pub returns-in_err-subtype-clause-told : goal.returns-in_err-subtype-clause-told
returns-in_err-subtype-clause-told c = told_first _ _ _ _ c.from_residual.result c.from_residual.ensures.1 (λ e p. p) c.in_err-subtype.ensures.told

pub returns-in_err-object_type-clause-told : goal.returns-in_err-object_type-clause-told
returns-in_err-object_type-clause-told c =
    let d = tree.port_view c.args.port.now in
    behind_object c.args.sight.now d.subtype (λ y. lacking LeftOut d.subtype.mark.at (as_port_type y.type) ▸ of_any (broken.value_of c.args.sight.now y) d.default) (subtype_view c.in_ok-subtype.subtype) _ _ c.from_residual-in_err-object_type.result c.from_residual-in_err-object_type.ensures.1 (λ e p. p) c.in_ok-subtype.ensures.given
    (told_left _ _ _ (told_lacking LeftOut d.subtype.mark.at (as_port_type c.in_ok-subtype.subtype.object_type) _ c.in_err-object_type.ensures.given c.in_err-object_type.ensures.told))

pub returns-in_err-default-clause-told : goal.returns-in_err-default-clause-told
returns-in_err-default-clause-told c =
    let d = tree.port_view c.args.port.now in
    behind_object c.args.sight.now d.subtype (λ y. lacking LeftOut d.subtype.mark.at (as_port_type y.type) ▸ of_any (broken.value_of c.args.sight.now y) d.default) (subtype_view c.in_ok-subtype.subtype) _ _ c.from_residual-in_err-default.result c.from_residual-in_err-default.ensures.1 (λ e p. p) c.in_ok-subtype.ensures.given
    (told_right _ _ _ (lacking_kept LeftOut d.subtype.mark.at (as_port_type c.in_ok-subtype.subtype.object_type) c.in_ok-object_type.object_type c.in_ok-object_type.ensures.given)
    (told_same _ _ c.in_err-default.field-0.0 (ap (λ r. of_any (subtypes_broken.fixed_value c.args.sight.now c.in_ok-subtype.subtype.object_type r) d.default) c.range-range.ensures) c.in_err-default.ensures.told))
