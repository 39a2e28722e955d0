use Rattle.std.proofs.Common.{ap, sym}
use Rattle.vhdl_names_rules.specs.declared.fault.NameProblem.TheVariants.{WrongKind}
use Rattle.vhdl_names_rules.specs.Visibility as visibility
use Rattle.vhdl_names_rules.specs.Instances.{as_component}
use Rattle.vhdl_names_rules.specs.problems.Broken.{lacking, where_given}
use Rattle.vhdl_names_rules.specs.problems.Expressions.{meaning}
use Rattle.std.specs.Prelude.{option_map}
use Rattle.vhdl_names_rules.specs.problems.Instances as broken
use Rattle.vhdl_names_rules.proofs.Telling.{told_left, told_right, told_given, told_on}
use Rattle.vhdl_names_rules.proofs.kept.Expressions.{meaning_kept}
use Rattle.vhdl_names_instances.specs.Breaking as breaking
use Rattle.vhdl_names_instances.proofs.Told.{told_along}
use Rattle.vhdl_names_instances.proofs.Instanced.{entity_of_told}
use Rattle.vhdl_tree.specs.View as tree
use Rattle.vhdl_names_sight.specs.Views.{meaning_view}
use Rattle.vhdl_names_rules.proofs.Along.{gives_along}
use Rattle.vhdl_names_rules.proofs.Passing.{told_by}
use Rattle.vhdl_names_units.specs.Once.{names_view}
use Rattle.vhdl_names_instances.specs.Table.{seens_view}
use Rattle.vhdl_names_instances.specs.steps.Instances as steps
use Rattle.vhdl_names_instances.proofs.instances.instantiated.Goals as goal

pub returns-in-Entity-clause-given : goal.returns-in-Entity-clause-given
returns-in-Entity-clause-given c =
    let e = c.args.entities.now in
    gives_along (λ k. k) _ _ _
    (ap (λ u. steps.instantiated (names_view e.names) (seens_view e.formals) c.args.sight.now (tree.instantiated_view u)) c.in-Entity.is)
    c.entity_of.ensures.given

pub returns-in-Entity-clause-told : goal.returns-in-Entity-clause-told
returns-in-Entity-clause-told c = λ es are.
    let e = c.args.entities.now in
    let s = c.args.sight.now in
    let library = tree.ident_view c.in-Entity.library in
    let name = tree.ident_view c.in-Entity.name in
    let a = option_map tree.ident_view c.in-Entity.architecture in
    told_on (breaking.entity_of (names_view e.names) (seens_view e.formals) library name a) (broken.instantiated es s (tree.instantiated_view c.args.unit.now)) c.entity_of.result
    (λ f w. told_along (λ u. broken.instantiated es s (tree.instantiated_view u)) _ c.args.unit.now (sym c.in-Entity.is) f (entity_of_told e es are s f library name a w))
    c.entity_of.ensures.told

pub returns-in_err-meaning-in-Component-clause-told : goal.returns-in_err-meaning-in-Component-clause-told
returns-in_err-meaning-in-Component-clause-told c = λ es are.
    let s = c.args.sight.now in
    let n = tree.ident_view c.in-Component.name in
    let fault = c.in_err-meaning-in-Component.field-0.0 in
    told_by (broken.instantiated es s (tree.instantiated_view c.args.unit.now)) fault _ c.from_residual.result c.from_residual.ensures.1 (λ e p. p)
    (told_along (λ u. broken.instantiated es s (tree.instantiated_view u)) _ c.args.unit.now (sym c.in-Component.is) fault
    (told_left (meaning s n) (where_given (visibility.meaning s n.text) (λ d. lacking WrongKind n.at (as_component d))) fault c.in_err-meaning-in-Component.ensures.told))

pub returns-in_ok-meaning-in-Component-clause-told : goal.returns-in_ok-meaning-in-Component-clause-told
returns-in_ok-meaning-in-Component-clause-told c = λ es are.
    let s = c.args.sight.now in
    let n = tree.ident_view c.in-Component.name in
    let m = meaning_view c.in_ok-meaning-in-Component.meaning.now in
    told_on (lacking WrongKind n.at (as_component m)) (broken.instantiated es s (tree.instantiated_view c.args.unit.now)) c.as_component.result
    (λ f w. told_along (λ u. broken.instantiated es s (tree.instantiated_view u)) _ c.args.unit.now (sym c.in-Component.is) f
    (told_right (meaning s n) (where_given (visibility.meaning s n.text) (λ d. lacking WrongKind n.at (as_component d))) f
    (meaning_kept s n m c.in_ok-meaning-in-Component.ensures.meant)
    (told_given (λ d. lacking WrongKind n.at (as_component d)) (visibility.meaning s n.text) m f c.in_ok-meaning-in-Component.ensures.meant w)))
    c.as_component.ensures.told
