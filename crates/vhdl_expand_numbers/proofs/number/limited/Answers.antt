use Rattle.std.proofs.Common.{◌≡◌, true, sym, ap, ◌∙◌, subst, rules, w32, FitsSigned}
use Rattle.vhdl_expand_rules.specs.Computed.{Span, integers, covers, cut_to}
use Rattle.vhdl_expand_operands.specs.Operands.{operand_view}
use Rattle.vhdl_expand_numbers.specs.Views.{span_view}
use Rattle.vhdl_expand_rules.proofs.Digits.{word_has}
use Rattle.vhdl_expand_numbers.proofs.Limited.{within_covered, cut_within}
use Rattle.vhdl_expand_numbers.proofs.Widths.{few_digits}
use Rattle.vhdl_expand_numbers.proofs.number.limited.Goals as goal

pub invariant_of-result : goal.invariant_of-result
invariant_of-result c =
    let limits = c.args.limits in
    let s = span_view c.args.span in
    let f : FitsSigned w32 limits.least = search rules in
    let g : FitsSigned w32 limits.greatest = search rules in
    let inside = ap (λ (x : Span). covers x s) (sym c.span.ensures) ∙ sym c.covers.ensures ∙ c.if-covers.true in
    let held = within_covered limits.least limits.greatest (word_has limits.least f) (word_has limits.greatest g) s inside in
    record {
      held = held;
      narrow = few_digits s (operand_view c.args.operand) (operand_view c.in_ok-operand.operand) c.digits.result _ held c.digits.ensures.given c.in_ok-operand.ensures c.in_ok-operand.operand.counted;
    }

pub invariant_of-result-2 : goal.invariant_of-result-2
invariant_of-result-2 c =
    let limits = c.args.limits in
    let s = span_view c.args.span in
    let cut = span_view c.cut-span.result in
    let f : FitsSigned w32 limits.least = search rules in
    let g : FitsSigned w32 limits.greatest = search rules in
    let is = c.cut-span.ensures ∙ ap (λ (x : Span). cut_to x s) c.span-2.ensures in
    let held = subst (λ (x : Span). covers integers x ≡ true) (sym is) (cut_within limits.least limits.greatest (word_has limits.least f) (word_has limits.greatest g) s) in
    record {
      held = held;
      narrow = few_digits cut (operand_view c.in_ok-operand-2.operand) (operand_view c.in_ok-operand-3.operand) c.digits-2.result _ held c.digits-2.ensures.given c.in_ok-operand-3.ensures c.in_ok-operand-3.operand.counted;
    }
