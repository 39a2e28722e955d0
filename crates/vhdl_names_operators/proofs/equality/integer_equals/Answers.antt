use Rattle.std.proofs.Common.{ap, ◌∙◌}
use Rattle.std.specs.Prelude.{option_map}
use Rattle.vhdl_names_rules.specs.Operators.{elements, truth, equality}
use Rattle.vhdl_names_trees.specs.views.Expressions.{typed_view}
use Rattle.vhdl_names_trees.specs.views.Vectors.{vector_view}
use Rattle.vhdl_names_numbers.specs.Integers.{integer_view}
use Rattle.vhdl_names_operators.specs.Steps.{same_by}
use Rattle.vhdl_names_operators.proofs.Numbering.{no_elements, equals_number, equals_no_number, integers_equal, behind_integer, mismatch_told}
use Rattle.vhdl_names_operators.proofs.equality.integer_equals.Goals as goal

pub returns-in_ok-compared_with-in-Unsigned-clause-given : goal.returns-in_ok-compared_with-in-Unsigned-clause-given
returns-in_ok-compared_with-in-Unsigned-clause-given c =
    let same = same_by c.args.at c.args.comparison in
    let s = integer_view c.args.left in
    let y = vector_view c.in-Elements.y in
    ap (λ o. equality c.args.at c.args.comparison same s (typed_view o)) c.in-Elements.is
    ∙ ap (λ k. equality c.args.at c.args.comparison same s (elements k y)) c.in-Unsigned.is
    ∙ equals_number c.args.at c.args.comparison same c.args.left y ∙ ap (option_map truth) c.in_ok-compared_with-in-Unsigned.ensures

pub returns-in_default-k : goal.returns-in_default-k
returns-in_default-k c =
    let same = same_by c.args.at c.args.comparison in
    record {
      given =
          λ n. ap (λ o. equality c.args.at c.args.comparison same (integer_view c.args.left) (typed_view o)) c.in-Elements.is
          ∙ equals_no_number c.args.at c.args.comparison same c.args.left c.in-Elements.k (vector_view c.in-Elements.y) c.in_default-k.not-Unsigned;
      told = mismatch_told c.args.at _ (c.without.ensures ∙ c.at.ensures);
    }

pub returns-in_ok-integers_compared-in-Ok-clause-given : goal.returns-in_ok-integers_compared-in-Ok-clause-given
returns-in_ok-integers_compared-in-Ok-clause-given c =
    integers_equal c.args.at c.args.comparison (same_by c.args.at c.args.comparison) c.args.left (typed_view c.args.right) (integer_view c.in-Ok.right) c.in-Ok.ensures.given
    ∙ c.in_ok-integers_compared-in-Ok.ensures

pub returns-in-Err : goal.returns-in-Err
returns-in-Err c =
    record {
      given =
          λ n. behind_integer c.args.at c.args.comparison (same_by c.args.at c.args.comparison) c.args.left (typed_view c.args.right)
          (no_elements c.args.right c.in_default.not-Elements) c.in-Err.ensures.none;
      told = mismatch_told c.args.at _ (c.without-in-Err.ensures ∙ c.at-in-Err.ensures);
    }
