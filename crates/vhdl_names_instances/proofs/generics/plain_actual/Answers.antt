use Rattle.std.proofs.Common.{ap}
use Rattle.vhdl_names_rules.specs.Rules.{◌>>=◌}
use Rattle.vhdl_names_trees.specs.views.Expressions.{typed_view}
use Rattle.vhdl_names_units.specs.views.Answers.{fixed_view, given_view}
use Rattle.vhdl_names_rules.proofs.Along.{gives_along}
use Rattle.vhdl_names_rules.proofs.Passing.{passed_on, told_first}
use Rattle.vhdl_names_values.specs.Fixing.{known_given}
use Rattle.vhdl_names_instances.proofs.Valued.{given_told}
use Rattle.vhdl_names_instances.proofs.generics.plain_actual.Goals as goal

pub returns-in_err-given-clause-given : goal.returns-in_err-given-clause-given
returns-in_err-given-clause-given c =
    passed_on fixed_view _ c.in_err-given.field-0.0 _ c.from_residual.result c.from_residual.ensures.1 (λ e p. p) (λ n. ap (λ o. o >>= known_given) (c.in_err-given.ensures.given n))

pub returns-in_err-given-clause-told : goal.returns-in_err-given-clause-told
returns-in_err-given-clause-told c = told_first _ _ _ _ c.from_residual.result c.from_residual.ensures.1 (λ e p. p) c.in_err-given.ensures.told

pub returns-clause-given : goal.returns-clause-given
returns-clause-given c = gives_along fixed_view _ _ _ (ap (λ o. o >>= known_given) c.in_ok-given.ensures.given) c.as_known.ensures.given

pub returns-clause-told : goal.returns-clause-told
returns-clause-told c =
    given_told c.args.kind c.args.at (typed_view c.args.operand) (given_view c.in_ok-given.given) fixed_view c.as_known.result c.in_ok-given.ensures.given c.as_known.ensures.given c.as_known.ensures.told
