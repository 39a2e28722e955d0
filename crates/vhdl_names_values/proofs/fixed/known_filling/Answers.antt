use Rattle.std.proofs.Common.{option_map, refl, ap}
use Rattle.vhdl_tree.specs.View.{value_view}
use Rattle.vhdl_names_rules.specs.Rules.{◌>>=◌}
use Rattle.vhdl_names_trees.specs.views.Integers.{target_range_view}
use Rattle.vhdl_names_units.specs.views.Answers.{fixed_view, given_view}
use Rattle.vhdl_names_rules.specs.Expressions.{value_given}
use Rattle.vhdl_names_rules.specs.problems.Expressions as broken
use Rattle.vhdl_names_rules.proofs.Along.{gives_along}
use Rattle.vhdl_names_rules.proofs.Passing.{passed_on, told_first}
use Rattle.vhdl_names_rules.proofs.kept.Expressions.{value_given_kept}
use Rattle.vhdl_names_values.specs.Fixing.{known_given}
use Rattle.vhdl_names_values.proofs.Further.{known_behind}
use Rattle.vhdl_names_values.proofs.fixed.known_filling.Goals as goal

pub returns-in_err-given-clause-given : goal.returns-in_err-given-clause-given
returns-in_err-given-clause-given c =
    passed_on fixed_view _ c.in_err-given.field-0.0 _ c.from_residual.result c.from_residual.ensures.1 (λ e p. p) (λ n. ap (λ o. o >>= known_given) (c.in_err-given.ensures.given n))

pub returns-in_err-given-clause-told : goal.returns-in_err-given-clause-told
returns-in_err-given-clause-told c = told_first _ _ _ _ c.from_residual.result c.from_residual.ensures.1 (λ e p. p) c.in_err-given.ensures.told

pub returns-clause-given : goal.returns-clause-given
returns-clause-given c = gives_along fixed_view _ _ _ (ap (λ o. o >>= known_given) c.in_ok-given.ensures.given) c.as_known.ensures.given

pub returns-clause-told : goal.returns-clause-told
returns-clause-told c =
    let v = value_view c.args.value.now in
    let g = given_view c.in_ok-given.given in
    known_behind (broken.value_given c.args.sight.now c.args.object_type (option_map target_range_view c.args.range) v) (value_given c.args.sight.now c.args.object_type (option_map target_range_view c.args.range) v) fixed_view g c.args.at c.args.at _
    (value_given_kept c.args.sight.now c.args.object_type (option_map target_range_view c.args.range) v g c.in_ok-given.ensures.given) c.in_ok-given.ensures.given refl c.as_known.ensures.given c.as_known.ensures.told
