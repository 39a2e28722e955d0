use Rattle.std.proofs.Common.{Some, option_map, sym, ap, ◌∙◌}
use Rattle.vhdl_names_rules.specs.units.Expressions as u
use Rattle.vhdl_names_rules.specs.units.Statements.{single}
use Rattle.vhdl_names_trees.specs.views.Vectors.{value_view}
use Rattle.vhdl_names_trees.specs.views.Expressions.{typed_view}
use Rattle.vhdl_names_numbers.specs.Integers.{integer_view}
use Rattle.vhdl_names_asked.proofs.Aggregating.{number_given, no_number_given}
use Rattle.vhdl_names_asked.proofs.asked.as_number.Goals as goal

pub returns-in_ok-new-in-Ok-clause-given : goal.returns-in_ok-new-in-Ok-clause-given
returns-in_ok-new-in-Ok-clause-given c =
    number_given (typed_view c.args.operand) (integer_view c.in-Ok.integer) c.in-Ok.ensures.given
    ∙ ap (option_map (λ j. single (u.Value.computed j))) (sym c.into_computed.ensures)
    ∙ ap (λ v. Some (single (value_view v))) (sym c.in_ok-new-in-Ok.ensures.ok)

pub returns-in-Err-clause-given : goal.returns-in-Err-clause-given
returns-in-Err-clause-given c = λ n. no_number_given (typed_view c.args.operand) c.in-Err.ensures.none
