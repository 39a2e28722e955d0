use Rattle.std.proofs.Common.{option_map, ap, sym, ◌∙◌}
use Rattle.vhdl_tree.specs.Tree as t
use Rattle.vhdl_tree.specs.View.{view}
use Rattle.vhdl_names_rules.specs.units.Units.{Fixed}
use Rattle.vhdl_names_rules.specs.Subtypes.{fixed_value}
use Rattle.vhdl_names_rules.specs.problems.Subtypes as broken
use Rattle.vhdl_names_trees.specs.views.Integers.{target_range_view}
use Rattle.vhdl_names_rules.proofs.Along.{gives_along}
use Rattle.vhdl_names_rules.proofs.Passing.{passed_on, told_by}
use Rattle.vhdl_names_units.specs.views.Answers.{fixed_view}
use Rattle.vhdl_names_expressions.proofs.Breaking.{told_as}
use Rattle.vhdl_names_values.proofs.Valued.{integer_given, integer_told, truth_given, truth_told, wider_given, wider_told}
use Rattle.vhdl_names_values.proofs.by_type.fixed_expression.Goals as goal

pub returns-in_err-number-in-Integers : goal.returns-in_err-number-in-Integers
returns-in_err-number-in-Integers c =
    let s = c.args.sight.now in
    let r = (option_map target_range_view c.args.range) in
    let e = view c.args.e.now in
    record {
      given =
          passed_on fixed_view _ c.in_err-number-in-Integers.field-0.0 _ c.from_residual.result c.from_residual.ensures.1 (λ e p. p)
          (λ n. ap (λ k. fixed_value s k r (t.single e)) c.in-Integers.is ∙ integer_given s r e ∙ ap (option_map Fixed.integer) (c.in_err-number-in-Integers.ensures.given n));
      told =
          told_as _ _ _ (integer_told s r e ∙ sym (ap (λ k. broken.fixed_value s k r (t.single e)) c.in-Integers.is))
          (told_by _ c.in_err-number-in-Integers.field-0.0 _ c.from_residual.result c.from_residual.ensures.1 (λ e p. p) c.in_err-number-in-Integers.ensures.told);
    }

pub returns-in_ok-number-in-Integers-clause-given : goal.returns-in_ok-number-in-Integers-clause-given
returns-in_ok-number-in-Integers-clause-given c =
    let s = c.args.sight.now in
    let r = (option_map target_range_view c.args.range) in
    let e = view c.args.e.now in
    ap (λ k. fixed_value s k r (t.single e)) c.in-Integers.is ∙ integer_given s r e ∙ ap (option_map Fixed.integer) c.in_ok-number-in-Integers.ensures.given

pub returns-in_err-truth-in-Booleans : goal.returns-in_err-truth-in-Booleans
returns-in_err-truth-in-Booleans c =
    let s = c.args.sight.now in
    let r = (option_map target_range_view c.args.range) in
    let e = view c.args.e.now in
    record {
      given =
          passed_on fixed_view _ c.in_err-truth-in-Booleans.field-0.0 _ c.from_residual-in_err-truth-in-Booleans.result c.from_residual-in_err-truth-in-Booleans.ensures.1 (λ e p. p)
          (λ n. ap (λ k. fixed_value s k r (t.single e)) c.in-Booleans.is ∙ truth_given s r e ∙ ap (option_map Fixed.truth) (c.in_err-truth-in-Booleans.ensures.given n));
      told =
          told_as _ _ _ (truth_told s r e ∙ sym (ap (λ k. broken.fixed_value s k r (t.single e)) c.in-Booleans.is))
          (told_by _ c.in_err-truth-in-Booleans.field-0.0 _ c.from_residual-in_err-truth-in-Booleans.result c.from_residual-in_err-truth-in-Booleans.ensures.1 (λ e p. p) c.in_err-truth-in-Booleans.ensures.told);
    }

pub returns-in_ok-truth-in-Booleans-clause-given : goal.returns-in_ok-truth-in-Booleans-clause-given
returns-in_ok-truth-in-Booleans-clause-given c =
    let s = c.args.sight.now in
    let r = (option_map target_range_view c.args.range) in
    let e = view c.args.e.now in
    ap (λ k. fixed_value s k r (t.single e)) c.in-Booleans.is ∙ truth_given s r e ∙ ap (option_map Fixed.truth) c.in_ok-truth-in-Booleans.ensures.given

pub returns-in_default : goal.returns-in_default
returns-in_default c =
    let s = c.args.sight.now in
    let r = (option_map target_range_view c.args.range) in
    let v = t.single (view c.args.e.now) in
    record {
      given = gives_along fixed_view _ _ _ (wider_given s c.args.object_type r v c.in_default.not-Integers c.in_default.not-Booleans) c.wider_expression.ensures.given;
      told = told_as _ _ _ (wider_told s c.args.object_type r v c.in_default.not-Integers c.in_default.not-Booleans) c.wider_expression.ensures.told;
    }
