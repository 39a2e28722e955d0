use Rattle.std.proofs.Common.{◌≡◌, true, sym, subst, rules, w32, FitsSigned}
use Rattle.std.proofs.lemmas.Bool.{and_from}
use Rattle.vhdl_expand_rules.specs.Computed.{Span, integers, has, covers}
use Rattle.vhdl_expand_rules.proofs.Digits.{word_has}
use Rattle.vhdl_expand_operands.specs.Operands.{operand_view}
use Rattle.vhdl_expand_numbers.specs.Views.{span_view}
use Rattle.vhdl_expand_numbers.proofs.Widths.{few_digits}
use Rattle.vhdl_expand_numbers.proofs.bounded.Number.of_object.Goals as goal

pub invariant_of-result : goal.invariant_of-result
invariant_of-result c =
    let limits = c.of_range-limits.result in
    let f : FitsSigned w32 limits.least = search rules in
    let g : FitsSigned w32 limits.greatest = search rules in
    let inside = and_from (has integers limits.least) (has integers limits.greatest) (word_has limits.least f) (word_has limits.greatest g) in
    let held = subst (λ (x : Span). covers integers x ≡ true) (sym c.span-span.ensures) inside in
    record {
      held = held;
      narrow = few_digits (span_view c.span-span.result) (operand_view c.in_ok-digits.digits) (operand_view c.in_ok-operand.operand) c.digits.result _ held c.digits.ensures.given c.in_ok-operand.ensures c.in_ok-operand.operand.counted;
    }
