use Rattle.std.proofs.Common.{sym, ap, ◌∙◌}
use Rattle.vhdl_names_rules.specs.declared.kind.ElementKind.TheVariants.{Unsigned}
use Rattle.vhdl_names_rules.specs.Operators.{elements}
use Rattle.vhdl_names_rules.specs.problems.Operators.{is_numeric}
use Rattle.vhdl_names_trees.specs.views.Expressions.{typed_view}
use Rattle.vhdl_names_trees.specs.views.Vectors.{vector_view}
use Rattle.vhdl_names_rules.proofs.Along.{gives_along}
use Rattle.vhdl_names_numbers.specs.Integers.{integer_view}
use Rattle.vhdl_names_operators.specs.Steps.{numbers_of, found}
use Rattle.vhdl_names_operators.specs.Views.{numbers_view}
use Rattle.vhdl_names_operators.proofs.Numbering.{no_elements, integer_beside, integers_beside, no_integer_beside, other_numeric, numeric_told, told_at}
use Rattle.vhdl_names_operators.proofs.numbers.beside_integer.Goals as goal

pub returns-in-Elements : goal.returns-in-Elements
returns-in-Elements c =
    let s = integer_view c.args.integer in
    let y = vector_view c.in-Elements.y in
    record {
      given =
          gives_along numbers_view _ _ _
          (ap (λ o. numbers_of c.args.numbers s (typed_view o)) c.in-Elements.is ∙ integer_beside c.args.numbers c.args.integer c.in-Elements.k y
          ∙ ap (λ b. found c.args.numbers b (s, elements Unsigned y)) (sym c.is_number.ensures))
          c.numeric.ensures.given;
      told =
          numeric_told _ _ c.args.problem c.args.at _
          (c.is_number.ensures ∙ sym (ap (λ o. is_numeric (typed_view o)) c.in-Elements.is)) c.numeric.ensures.told;
    }

pub returns-in-Ok-clause-given : goal.returns-in-Ok-clause-given
returns-in-Ok-clause-given c = integers_beside c.args.numbers c.args.integer (typed_view c.args.operand) (integer_view c.in-Ok.t) c.in-Ok.ensures.given

pub returns-in-Err : goal.returns-in-Err
returns-in-Err c =
    let other = no_elements c.args.operand c.in_default.not-Elements in
    record {
      given = λ n. no_integer_beside c.args.numbers c.args.integer (typed_view c.args.operand) other c.in-Err.ensures.none;
      told = told_at _ c.args.problem c.args.at _ (other_numeric (typed_view c.args.operand) other c.in-Err.ensures.none) (c.without.ensures ∙ c.at.ensures);
    }
