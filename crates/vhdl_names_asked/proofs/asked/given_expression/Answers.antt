use Rattle.std.proofs.Common.{option_map, ap}
use Rattle.vhdl_tree.specs.View.{view}
use Rattle.vhdl_names_rules.specs.Expressions as are
use Rattle.vhdl_names_trees.specs.views.Integers.{target_range_view}
use Rattle.vhdl_names_trees.specs.views.Expressions.{typed_view}
use Rattle.vhdl_names_rules.specs.problems.Places.{start}
use Rattle.vhdl_names_rules.specs.problems.Expressions as broken
use Rattle.vhdl_names_rules.proofs.kept.Expressions.{typed_kept}
use Rattle.vhdl_names_rules.proofs.Passing.{told_first}
use Rattle.vhdl_names_expressions.proofs.Breaking.{told_as, asked_told}
use Rattle.vhdl_names_asked.proofs.asked.given_expression.Goals as goal

pub returns-in_err-operand-clause-told : goal.returns-in_err-operand-clause-told
returns-in_err-operand-clause-told c = told_first _ _ _ _ c.from_residual.result c.from_residual.ensures.1 (λ e p. p) c.in_err-operand.ensures.told

pub returns-clause-told : goal.returns-clause-told
returns-clause-told c =
    let s = c.args.sight.now in
    let e = view c.args.e.now in
    let r = option_map target_range_view c.args.range in
    let x = typed_view c.in_ok-operand.operand in
    asked_told (broken.typed s e) (are.typed s e) (broken.given c.args.object_type r (start e)) x _ (typed_kept e s x c.in_ok-operand.ensures.given) c.in_ok-operand.ensures.given
    (told_as _ _ _ (ap (λ k. broken.given c.args.object_type r k x) c.start.ensures) c.given_as.ensures.told)
