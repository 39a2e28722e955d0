use Rattle.std.proofs.Common.{option_map, ap}
use Rattle.vhdl_names_rules.proofs.Passing.{passed_on, told_by}
use Rattle.vhdl_names_units.specs.views.Answers.{subtype_view}
use Rattle.vhdl_names_values.specs.Marking.{integers_object}
use Rattle.vhdl_names_values.proofs.objects.integer_object.Goals as goal

pub returns-in_err-numbers : goal.returns-in_err-numbers
returns-in_err-numbers c = record {
  given =
      passed_on subtype_view _ c.in_err-numbers.field-0.0 _ c.from_residual.result c.from_residual.ensures.1 (λ e p. p)
      (λ n. ap (option_map integers_object) (c.in_err-numbers.ensures.given n));
  told = told_by _ c.in_err-numbers.field-0.0 _ c.from_residual.result c.from_residual.ensures.1 (λ e p. p) c.in_err-numbers.ensures.told;
}

pub returns-clause-given : goal.returns-clause-given
returns-clause-given c = ap (option_map integers_object) c.in_ok-numbers.ensures.given
