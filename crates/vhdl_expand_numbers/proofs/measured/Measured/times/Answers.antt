use Rattle.std.proofs.Common.{refl, sym, ap, ◌∙◌, rules, w32, FitsSigned}
use Rattle.std.proofs.lemmas.Int.{to_z-of_z}
use Rattle.vhdl_names_rules.specs.declared.operator.Arithmetic.TheVariants.{Multiply}
use Rattle.vhdl_expand_rules.specs.Elab.{fault_told}
use Rattle.vhdl_expand_rules.specs.Linear.{one_term, measured_operation}
use Rattle.vhdl_expand_rules.proofs.Steps.{given}
use Rattle.vhdl_expand_operands.proofs.Passing.{passed_on, refused_by}
use Rattle.vhdl_expand_numbers.specs.Terms.{static_factor}
use Rattle.vhdl_expand_numbers.specs.Views.{number_view, linear_view, measured_view}
use Rattle.vhdl_expand_numbers.proofs.Measuring.{operation_made, sum_refused, left_static, right_static, none_static}
use Rattle.vhdl_expand_numbers.proofs.measured.Measured.times.Goals as goal

pub returns-in_err-linear : goal.returns-in_err-linear
returns-in_err-linear c =
    let x = measured_view c.args.self in
    let y = measured_view c.args.right in
    let right = c.in_ok-right in
    let n = number_view c.in_ok-number.number in
    let fault = c.in_err-linear.field-0.0 in
    let f : FitsSigned w32 c.in-Some.factor = search rules in
    let some = sym c.factor.ensures ∙ c.in-Some.is in
    let by = left_static c.args.at x.linear (linear_view right.linear) n.digits c.in-Some.factor _ some (to_z-of_z w32 c.in-Some.factor f) in
    passed_on measured_view (measured_operation c.args.at Multiply x y) fault _ c.from_residual-in_err-linear.result c.from_residual-in_err-linear.ensures.1 (λ e p. p)
    (λ m. sum_refused c.args.at Multiply x y x.number (number_view right.right) x.linear (linear_view right.linear) refl right.ensures.number refl right.ensures.linear n (fault_told fault)
    c.in_ok-number.ensures (by ∙ refused_by linear_view _ c.times.result fault c.in_err-linear.was c.times.ensures m))

pub returns-in-Some : goal.returns-in-Some
returns-in-Some c =
    let x = measured_view c.args.self in
    let y = measured_view c.args.right in
    let right = c.in_ok-right in
    let n = number_view c.in_ok-number.number in
    let f : FitsSigned w32 c.in-Some.factor = search rules in
    let some = sym c.factor.ensures ∙ c.in-Some.is in
    let by = left_static c.args.at x.linear (linear_view right.linear) n.digits c.in-Some.factor _ some (to_z-of_z w32 c.in-Some.factor f) in
    operation_made c.args.at Multiply x y x.number (number_view right.right) x.linear (linear_view right.linear) refl right.ensures.number refl right.ensures.linear n
    (linear_view c.in_ok-linear.linear) c.in_ok-number.ensures (by ∙ c.in_ok-linear.ensures)

pub returns-in_err-linear-2 : goal.returns-in_err-linear-2
returns-in_err-linear-2 c =
    let x = measured_view c.args.self in
    let y = measured_view c.args.right in
    let left = c.in_ok-left in
    let n = number_view c.in_ok-number-2.number in
    let fault = c.in_err-linear-2.field-0.0 in
    let f : FitsSigned w32 c.in-Some-factor.factor = search rules in
    let none = sym c.factor.ensures ∙ c.in_default.is in
    let some = sym c.factor-2.ensures ∙ c.in-Some-factor.is in
    let by = right_static c.args.at (linear_view left.linear) y.linear n.digits c.in-Some-factor.factor _ (ap static_factor left.ensures.linear ∙ none) some (to_z-of_z w32 c.in-Some-factor.factor f) in
    passed_on measured_view (measured_operation c.args.at Multiply x y) fault _ c.from_residual-in_err-linear-2.result c.from_residual-in_err-linear-2.ensures.1 (λ e p. p)
    (λ m. sum_refused c.args.at Multiply x y (number_view left.left) y.number (linear_view left.linear) y.linear left.ensures.number refl left.ensures.linear refl n (fault_told fault)
    c.in_ok-number-2.ensures (by ∙ refused_by linear_view _ c.times-in-Some-factor.result fault c.in_err-linear-2.was c.times-in-Some-factor.ensures m))

pub returns-in-Some-factor : goal.returns-in-Some-factor
returns-in-Some-factor c =
    let x = measured_view c.args.self in
    let y = measured_view c.args.right in
    let left = c.in_ok-left in
    let n = number_view c.in_ok-number-2.number in
    let f : FitsSigned w32 c.in-Some-factor.factor = search rules in
    let none = sym c.factor.ensures ∙ c.in_default.is in
    let some = sym c.factor-2.ensures ∙ c.in-Some-factor.is in
    let by = right_static c.args.at (linear_view left.linear) y.linear n.digits c.in-Some-factor.factor _ (ap static_factor left.ensures.linear ∙ none) some (to_z-of_z w32 c.in-Some-factor.factor f) in
    operation_made c.args.at Multiply x y (number_view left.left) y.number (linear_view left.linear) y.linear left.ensures.number refl left.ensures.linear refl n
    (linear_view c.in_ok-linear-2.linear) c.in_ok-number-2.ensures (by ∙ c.in_ok-linear-2.ensures)

pub returns : goal.returns
returns c =
    let x = measured_view c.args.self in
    let y = measured_view c.args.right in
    let n = number_view c.in_ok-number-3.number in
    operation_made c.args.at Multiply x y x.number y.number x.linear y.linear refl refl refl refl n (one_term n.digits) c.in_ok-number-3.ensures
    (none_static c.args.at x.linear y.linear n.digits (sym c.factor.ensures ∙ c.in_default.is) (sym c.factor-2.ensures ∙ c.in_default-factor.is))
    ∙ ap given (sym c.term.ensures)
