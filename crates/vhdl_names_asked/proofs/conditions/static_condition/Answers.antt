use Rattle.vhdl_tree.specs.View.{view}
use Rattle.vhdl_names_rules.specs.Expressions.{as_static_test}
use Rattle.vhdl_names_trees.specs.views.Tests.{static_test_view}
use Rattle.vhdl_names_trees.specs.views.Expressions.{typed_view}
use Rattle.vhdl_names_rules.proofs.Passing.{told_first}
use Rattle.vhdl_names_expressions.proofs.Breaking.{asked_of}
use Rattle.vhdl_names_asked.proofs.conditions.static_condition.Goals as goal

pub returns-in_err-value-clause-told : goal.returns-in_err-value-clause-told
returns-in_err-value-clause-told c = told_first _ _ _ _ c.from_residual.result c.from_residual.ensures.1 (λ e p. p) c.in_err-value.ensures.told

pub returns-clause-told : goal.returns-clause-told
returns-clause-told c = asked_of c.args.sight.now (view c.args.e.now) as_static_test static_test_view _ (typed_view c.in_ok-value.value) _ c.in_ok-value.ensures.given c.start.ensures c.as_static_test.ensures.given c.as_static_test.ensures.told
