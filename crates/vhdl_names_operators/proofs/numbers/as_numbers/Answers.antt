use Rattle.std.proofs.Common.{◌&&◌, sym, ap, ◌∙◌}
use Rattle.vhdl_names_rules.specs.declared.kind.ElementKind.TheVariants.{Unsigned}
use Rattle.vhdl_names_rules.specs.Operators.{elements, is_number}
use Rattle.vhdl_names_rules.specs.problems.Operators.{is_numeric}
use Rattle.vhdl_names_trees.specs.views.Expressions.{typed_view}
use Rattle.vhdl_names_trees.specs.views.Vectors.{vector_view}
use Rattle.vhdl_names_rules.proofs.Along.{gives_along}
use Rattle.vhdl_names_numbers.specs.Integers.{integer_view}
use Rattle.vhdl_names_numbers.proofs.Knowing.{and_true, and_false}
use Rattle.vhdl_names_operators.specs.Steps.{numbers_of, found}
use Rattle.vhdl_names_operators.specs.Views.{numbers_view}
use Rattle.vhdl_names_operators.proofs.Numbering.{no_elements, integer_same, integer_numeric, other_numeric, beside_integer, beside_other, left_other, numeric_told, told_at}
use Rattle.vhdl_names_operators.proofs.numbers.as_numbers.Goals as goal

pub returns-in-Ok : goal.returns-in-Ok
returns-in-Ok c =
    let j = c.in-Elements.j in
    let x = vector_view c.in-Elements.x in
    let y = typed_view c.args.operands.1 in
    let b = integer_view c.in-Ok.t in
    record {
      given =
          gives_along numbers_view _ _ _
          (ap (λ o. numbers_of c.args.numbers (typed_view o) y) c.in-Elements.is ∙ beside_integer c.args.numbers j x y b c.in-Ok.ensures.given
          ∙ ap (λ v. found c.args.numbers v (elements Unsigned x, b)) (sym c.is_number-in-Ok.ensures))
          c.numeric-in-Ok.ensures.given;
      told =
          numeric_told _ _ c.args.problem c.args.at _
          (c.is_number-in-Ok.ensures ∙ and_true (is_number j) ∙ ap (λ v. is_number j && v) (sym (integer_numeric y b c.in-Ok.ensures.given))
          ∙ sym (ap (λ o. is_numeric (typed_view o) && is_numeric y) c.in-Elements.is))
          c.numeric-in-Ok.ensures.told;
    }

pub returns-in-Err : goal.returns-in-Err
returns-in-Err c =
    let j = c.in-Elements.j in
    let x = vector_view c.in-Elements.x in
    let y = typed_view c.args.operands.1 in
    let other = no_elements c.args.operands.1 c.in_default-right.not-Elements in
    record {
      given = λ n. ap (λ o. numbers_of c.args.numbers (typed_view o) y) c.in-Elements.is ∙ beside_other c.args.numbers j x y other c.in-Err.ensures.none;
      told =
          told_at _ c.args.problem c.args.at _
          (ap (λ v. is_numeric (typed_view c.args.operands.0) && v) (other_numeric y other c.in-Err.ensures.none)
          ∙ sym (and_false (is_numeric (typed_view c.args.operands.0))))
          (c.without.ensures ∙ c.at.ensures);
    }

pub returns-in-Ok-of : goal.returns-in-Ok-of
returns-in-Ok-of c =
    let x = typed_view c.args.operands.0 in
    let y = typed_view c.args.operands.1 in
    let s = integer_view c.in-Ok-of.s in
    record {
      given = gives_along numbers_view _ _ _ (ap (λ o. numbers_of c.args.numbers o y) (integer_same x s c.in-Ok-of.ensures.given)) c.beside_integer.ensures.given;
      told =
          numeric_told _ _ c.args.problem c.args.at _
          (ap (λ v. v && is_numeric y) (sym (integer_numeric x s c.in-Ok-of.ensures.given))) c.beside_integer.ensures.told;
    }

pub returns-in-Err-of : goal.returns-in-Err-of
returns-in-Err-of c =
    let x = typed_view c.args.operands.0 in
    let y = typed_view c.args.operands.1 in
    let other = no_elements c.args.operands.0 c.in_default.not-Elements in
    record {
      given = λ n. left_other c.args.numbers x y other c.in-Err-of.ensures.none;
      told =
          told_at _ c.args.problem c.args.at _
          (ap (λ v. v && is_numeric y) (other_numeric x other c.in-Err-of.ensures.none))
          (c.without-in-Err-of.ensures ∙ c.at-in-Err-of.ensures);
    }
