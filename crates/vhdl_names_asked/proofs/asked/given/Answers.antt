use Rattle.std.proofs.Common.{option_map, sym, ap}
use Rattle.vhdl_tree.specs.View.{view, value_view}
use Rattle.vhdl_names_rules.specs.declared.fault.NameProblem.TheVariants.{TypeMismatch}
use Rattle.vhdl_names_rules.specs.Expressions as are
use Rattle.vhdl_names_rules.specs.Expressions.{as_filled}
use Rattle.vhdl_names_trees.specs.views.Integers.{target_range_view}
use Rattle.vhdl_names_trees.specs.views.Expressions.{typed_view}
use Rattle.vhdl_names_rules.specs.problems.Broken.{◌▸◌, unless, lacking}
use Rattle.vhdl_names_rules.specs.problems.Places.{start}
use Rattle.vhdl_names_rules.specs.problems.Expressions as broken
use Rattle.vhdl_names_rules.specs.problems.Expressions.{is_vector_type}
use Rattle.vhdl_names_rules.proofs.kept.Expressions.{typed_kept}
use Rattle.vhdl_names_rules.proofs.Passing.{told_first}
use Rattle.vhdl_names_expressions.proofs.Breaking.{told_as, asked_told}
use Rattle.vhdl_names_asked.proofs.asked.given.Goals as goal

pub returns-in-Expr-clause-told : goal.returns-in-Expr-clause-told
returns-in-Expr-clause-told c =
    told_as _ _ _ (sym (ap (λ v. broken.value_given c.args.sight.now c.args.object_type (option_map target_range_view c.args.range) (value_view v)) c.in-Expr.is)) c.given_expression.ensures.told

pub returns-in_err-operand-in-Others-clause-told : goal.returns-in_err-operand-in-Others-clause-told
returns-in_err-operand-in-Others-clause-told c =
    told_as _ _ _ (sym (ap (λ v. broken.value_given c.args.sight.now c.args.object_type (option_map target_range_view c.args.range) (value_view v)) c.in-Others.is))
    (told_first _ _ _ _ c.from_residual.result c.from_residual.ensures.1 (λ e p. p) c.in_err-operand-in-Others.ensures.told)

pub returns-in_ok-operand-in-Others-clause-told : goal.returns-in_ok-operand-in-Others-clause-told
returns-in_ok-operand-in-Others-clause-told c =
    let s = c.args.sight.now in
    let e = view c.in-Others.element in
    let x = typed_view c.in_ok-operand-in-Others.operand in
    told_as _ _ _ (sym (ap (λ v. broken.value_given s c.args.object_type (option_map target_range_view c.args.range) (value_view v)) c.in-Others.is))
    (asked_told (broken.typed s e) (are.typed s e) (λ x. unless TypeMismatch c.in-Others.at (is_vector_type c.args.object_type) ▸ lacking TypeMismatch (start e) (as_filled c.args.object_type x)) x _
    (typed_kept e s x c.in_ok-operand-in-Others.ensures.given) c.in_ok-operand-in-Others.ensures.given
    (told_as _ _ _ (ap (λ k. unless TypeMismatch c.in-Others.at (is_vector_type c.args.object_type) ▸ lacking TypeMismatch k (as_filled c.args.object_type x)) c.start.ensures) c.as_filled.ensures.told))
