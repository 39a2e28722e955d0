use Rattle.vhdl_tree.specs.View as tree
use Rattle.vhdl_names_rules.specs.problems.Declarations.{of_single}
use Rattle.vhdl_names_rules.specs.problems.Expressions as expressions_broken
use Rattle.vhdl_names_rules.specs.problems.Subtypes as subtypes_broken
use Rattle.vhdl_names_trees.specs.views.Integers.{subtype_view}
use Rattle.vhdl_names_rules.specs.views.Ranges.{base_view}
use Rattle.vhdl_names_rules.proofs.Passing.{told_first, told_second}
use Rattle.vhdl_names_rules.proofs.Telling.{told_same}
use Rattle.vhdl_names_declarations.proofs.Constancy.{integers_kept, of_single_is}
use Rattle.vhdl_names_declarations.proofs.constants.integer.Goals as goal

pub returns-in_err-subtype-clause-told : goal.returns-in_err-subtype-clause-told
returns-in_err-subtype-clause-told c = told_first _ _ _ _ c.from_residual.result c.from_residual.ensures.1 (λ e p. p) c.in_err-subtype.ensures.told

pub returns-in_err-e-clause-told : goal.returns-in_err-e-clause-told
returns-in_err-e-clause-told c =
    let s = c.args.sight.now in
    let d = tree.constants_view c.args.declaration.now in
    told_second (subtypes_broken.integer_subtype s d.subtype) (of_single (expressions_broken.static s) d.value) c.in_err-e.field-0.0 _ c.from_residual-in_err-e.result c.from_residual-in_err-e.ensures.1 (λ e p. p)
    (integers_kept s d.subtype (base_view c.args.base) (subtype_view c.in_ok-subtype.subtype) c.in_ok-subtype.ensures.given)
    (c.in_err-e.ensures.told (expressions_broken.static s))

pub returns-in_err-value-clause-told : goal.returns-in_err-value-clause-told
returns-in_err-value-clause-told c =
    let s = c.args.sight.now in
    let d = tree.constants_view c.args.declaration.now in
    told_second (subtypes_broken.integer_subtype s d.subtype) (of_single (expressions_broken.static s) d.value) c.in_err-value.field-0.0 _ c.from_residual-in_err-value.result c.from_residual-in_err-value.ensures.1 (λ e p. p)
    (integers_kept s d.subtype (base_view c.args.base) (subtype_view c.in_ok-subtype.subtype) c.in_ok-subtype.ensures.given)
    (told_same _ _ c.in_err-value.field-0.0 (of_single_is (expressions_broken.static s) d.value (tree.view c.in_ok-e.e.now) c.in_ok-e.ensures.given) c.in_err-value.ensures.told)
