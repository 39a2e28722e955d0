use Rattle.std.proofs.Common.{option_map, refl}
use Rattle.vhdl_tree.specs.Tree as t
use Rattle.vhdl_tree.specs.View.{ident_view, suffix_view, attribute_view}
use Rattle.vhdl_names_rules.specs.Expressions.{as_range}
use Rattle.vhdl_names_trees.specs.views.Integers.{range_view}
use Rattle.vhdl_names_trees.specs.views.Expressions.{typed_view}
use Rattle.vhdl_names_rules.proofs.Passing.{told_first}
use Rattle.vhdl_names_expressions.proofs.Breaking.{asked_of}
use Rattle.vhdl_names_asked.proofs.ranges.attribute_range.Goals as goal

pub returns-in_err-operand-clause-told : goal.returns-in_err-operand-clause-told
returns-in_err-operand-clause-told c = told_first _ _ _ _ c.from_residual.result c.from_residual.ensures.1 (λ e p. p) c.in_err-operand.ensures.told

pub returns-clause-told : goal.returns-clause-told
returns-clause-told c =
    let n = c.args.name.now in
    asked_of c.args.sight.now (t.named (ident_view n.identifier) (suffix_view n.suffix) (option_map attribute_view n.attribute)) as_range range_view c.args.name.now.identifier.at (typed_view c.in_ok-operand.operand) _
    c.in_ok-operand.ensures.given refl c.as_range.ensures.given c.as_range.ensures.told
