use Rattle.std.proofs.Common.{option_map, ap, sym}
use Rattle.vhdl_tree.specs.Tree as t
use Rattle.vhdl_tree.specs.View.{view, value_view}
use Rattle.vhdl_names_rules.specs.Subtypes.{fixed_value}
use Rattle.vhdl_names_rules.specs.problems.Subtypes as broken
use Rattle.vhdl_names_trees.specs.views.Integers.{target_range_view}
use Rattle.vhdl_names_rules.proofs.Along.{gives_along}
use Rattle.vhdl_names_rules.proofs.Passing.{passed_on, told_by}
use Rattle.vhdl_names_rules.proofs.Telling.{told_same}
use Rattle.vhdl_names_units.specs.views.Answers.{fixed_view}
use Rattle.vhdl_names_expressions.proofs.Breaking.{told_as}
use Rattle.vhdl_names_values.proofs.Valued.{is_single, single_given, single_told, wider_given, wider_told}
use Rattle.vhdl_names_values.proofs.by_type.fixed_value.Goals as goal

pub returns-in_err-e-in-Integers : goal.returns-in_err-e-in-Integers
returns-in_err-e-in-Integers c =
    let s = c.args.sight.now in
    let r = (option_map target_range_view c.args.range) in
    let v = value_view c.args.value.now in
    record {
      given =
          passed_on fixed_view _ c.in_err-e-in-Integers.field-0.0 _ c.from_residual.result c.from_residual.ensures.1 (λ e p. p)
          (λ n. single_given s c.args.object_type r v c.in-Integers.is (c.in_err-e-in-Integers.ensures.given n));
      told =
          told_by _ c.in_err-e-in-Integers.field-0.0 _ c.from_residual.result c.from_residual.ensures.1 (λ e p. p)
          (told_same _ _ c.in_err-e-in-Integers.field-0.0 (single_told s c.args.object_type r v c.in-Integers.is)
          (c.in_err-e-in-Integers.ensures.told (λ e. broken.fixed_value s c.args.object_type r (t.single e))));
    }

pub returns-in_ok-e-in-Integers : goal.returns-in_ok-e-in-Integers
returns-in_ok-e-in-Integers c =
    let s = c.args.sight.now in
    let r = (option_map target_range_view c.args.range) in
    let is = is_single (value_view c.args.value.now) (view c.in_ok-e-in-Integers.e.now) c.in_ok-e-in-Integers.ensures.given in
    record {
      given = gives_along fixed_view _ _ _ (ap (fixed_value s c.args.object_type r) is) c.fixed_expression.ensures.given;
      told = told_as _ _ _ (sym (ap (broken.fixed_value s c.args.object_type r) is)) c.fixed_expression.ensures.told;
    }

pub returns-in_default : goal.returns-in_default
returns-in_default c =
    let s = c.args.sight.now in
    let r = (option_map target_range_view c.args.range) in
    let v = value_view c.args.value.now in
    record {
      given = gives_along fixed_view _ _ _ (wider_given s c.args.object_type r v c.in_default.not-Integers c.in_default.not-Booleans) c.wider_value.ensures.given;
      told = told_as _ _ _ (wider_told s c.args.object_type r v c.in_default.not-Integers c.in_default.not-Booleans) c.wider_value.ensures.told;
    }
