use Rattle.std.proofs.Common.{ap, ◌∙◌}
use Rattle.vhdl_names_trees.specs.declared.typed.Typed.TheVariants as t
use Rattle.vhdl_names_trees.specs.views.Expressions.{typed_view}
use Rattle.vhdl_names_rules.proofs.Along.{gives_along}
use Rattle.vhdl_names_numbers.specs.Integers.{integer_view}
use Rattle.vhdl_names_operators.specs.Steps.{equality}
use Rattle.vhdl_names_operators.proofs.Numbering.{no_elements, no_enumerated, integer_same, mismatch_told}
use Rattle.vhdl_names_operators.proofs.Relating.{integer_equality, nothing_equal}
use Rattle.vhdl_names_operators.proofs.equality.equality.Goals as goal

pub returns-in-Enumerated-right-clause-given : goal.returns-in-Enumerated-right-clause-given
returns-in-Enumerated-right-clause-given c =
    let equals = equality c.args.language c.args.at c.args.comparison in
    gives_along typed_view _ _ _
    (ap (λ x. equals (typed_view x) (typed_view c.args.operands.1)) c.in-Enumerated.is
    ∙ ap (λ y. equals (typed_view (t.Enumerated c.in-Enumerated.number c.in-Enumerated.count c.in-Enumerated.value)) (typed_view y)) c.in-Enumerated-right.is)
    c.same_of.ensures.given

pub returns-in-Ok : goal.returns-in-Ok
returns-in-Ok c =
    let x = typed_view c.args.operands.0 in
    let y = typed_view c.args.operands.1 in
    record {
      given =
          gives_along typed_view _ _ _
          (ap (λ o. equality c.args.language c.args.at c.args.comparison o y) (integer_same x (integer_view c.in-Ok.integer) c.in-Ok.ensures.given)
          ∙ integer_equality c.args.language c.args.at c.args.comparison c.in-Ok.integer y)
          c.integer_equals.ensures.given;
      told = c.integer_equals.ensures.told;
    }

pub returns-in-Err : goal.returns-in-Err
returns-in-Err c =
    record {
      given =
          λ n. nothing_equal c.args.language c.args.at c.args.comparison c.args.operands.0 (typed_view c.args.operands.1) c.in_default.not-Truth c.requires.left
          (no_elements c.args.operands.0 c.in_default.not-Elements) (no_enumerated c.args.operands.0 c.in_default.not-Enumerated) c.in-Err.ensures.none;
      told = mismatch_told c.args.at _ (c.without-in-Err.ensures ∙ c.at-in-Err.ensures);
    }
