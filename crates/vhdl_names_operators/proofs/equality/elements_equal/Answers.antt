use Rattle.std.proofs.Common.{sym, ap, ◌∙◌}
use Rattle.std.specs.Prelude.{option_map}
use Rattle.vhdl_names_rules.specs.Operators.{elements, truth, equal_by, equality}
use Rattle.vhdl_names_trees.specs.views.Expressions.{typed_view}
use Rattle.vhdl_names_trees.specs.views.Vectors.{vector_view}
use Rattle.vhdl_names_numbers.specs.Integers.{integer_view}
use Rattle.vhdl_names_operators.specs.Steps.{same_by}
use Rattle.vhdl_names_operators.proofs.Numbering.{no_elements, number_equals, no_number, behind_elements, mismatch_told}
use Rattle.vhdl_names_operators.proofs.equality.elements_equal.Goals as goal

pub returns-in-None : goal.returns-in-None
returns-in-None c =
    let same = same_by c.args.at c.args.comparison in
    let j = c.args.left.0 in
    let x = vector_view c.args.left.1 in
    record {
      given =
          λ n. ap (λ o. equality c.args.at c.args.comparison same (elements j x) (typed_view o)) c.in-Elements.is
          ∙ ap (option_map (equal_by c.args.at c.args.comparison same x (vector_view c.in-Elements.y))) (sym c.common.ensures ∙ c.in-None.is);
      told = mismatch_told c.args.at _ (c.without.ensures ∙ c.at.ensures);
    }

pub returns-in_ok-compared_to-in-Unsigned-clause-given : goal.returns-in_ok-compared_to-in-Unsigned-clause-given
returns-in_ok-compared_to-in-Unsigned-clause-given c =
    let same = same_by c.args.at c.args.comparison in
    let x = vector_view c.args.left.1 in
    let y = typed_view c.args.right in
    ap (λ k. equality c.args.at c.args.comparison same (elements k x) y) c.in-Unsigned.is
    ∙ number_equals c.args.at c.args.comparison same x y (integer_view c.in-Ok.t) c.in-Ok.ensures.given
    ∙ ap (option_map truth) c.in_ok-compared_to-in-Unsigned.ensures

pub returns-in_default-j : goal.returns-in_default-j
returns-in_default-j c =
    record {
      given =
          λ n. no_number c.args.at c.args.comparison (same_by c.args.at c.args.comparison) c.args.left.0 (vector_view c.args.left.1) (typed_view c.args.right)
          (integer_view c.in-Ok.t) c.in_default-j.not-Unsigned c.in-Ok.ensures.given;
      told = mismatch_told c.args.at _ (c.without-in_default-j.ensures ∙ c.at-in_default-j.ensures);
    }

pub returns-in-Err : goal.returns-in-Err
returns-in-Err c =
    record {
      given =
          λ n. behind_elements c.args.at c.args.comparison (same_by c.args.at c.args.comparison) c.args.left.0 (vector_view c.args.left.1) (typed_view c.args.right)
          c.requires.right (no_elements c.args.right c.in_default.not-Elements) c.in-Err.ensures.none;
      told = mismatch_told c.args.at _ (c.without-in-Err.ensures ∙ c.at-in-Err.ensures);
    }
