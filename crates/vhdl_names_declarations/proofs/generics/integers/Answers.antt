use Rattle.vhdl_tree.specs.View as tree
use Rattle.vhdl_names_rules.specs.problems.Broken.{of_any}
use Rattle.vhdl_names_rules.specs.problems.Expressions as expressions_broken
use Rattle.vhdl_names_rules.specs.problems.Subtypes as subtypes_broken
use Rattle.vhdl_names_trees.specs.views.Integers.{subtype_view}
use Rattle.vhdl_names_rules.specs.views.Ranges.{base_view}
use Rattle.vhdl_names_rules.proofs.Passing.{told_first, told_second}
use Rattle.vhdl_names_declarations.proofs.Constancy.{integers_kept}
use Rattle.vhdl_names_declarations.proofs.generics.integers.Goals as goal

pub returns-in_err-subtype-clause-told : goal.returns-in_err-subtype-clause-told
returns-in_err-subtype-clause-told c = told_first _ _ _ _ c.from_residual.result c.from_residual.ensures.1 (λ e p. p) c.in_err-subtype.ensures.told

pub returns-in_err-default-clause-told : goal.returns-in_err-default-clause-told
returns-in_err-default-clause-told c =
    let g = tree.generic_view c.args.generic.now in
    told_second (subtypes_broken.integer_subtype c.args.sight.now g.subtype) (of_any (expressions_broken.static c.args.sight.now) g.default) c.in_err-default.field-0.0 _ c.from_residual-in_err-default.result c.from_residual-in_err-default.ensures.1 (λ e p. p)
    (integers_kept c.args.sight.now g.subtype (base_view c.args.base) (subtype_view c.in_ok-subtype.subtype) c.in_ok-subtype.ensures.given) c.in_err-default.ensures.told
