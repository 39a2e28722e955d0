use Rattle.std.proofs.Common.{get_or, ◌+◌, ◌*◌, ◌-◌, ◌<◌, sym, ◌∙◌, arith}
use Rattle.vhdl_lexer.specs.Literals.{greatest_integer}
use Rattle.vhdl_lexer.proofs.Integers.{value_after-above}
use Rattle.vhdl_lexer.proofs.literal.integer_value.Goals as goal

pub returns-then-value-from-clause-none : goal.returns-then-value-from-clause-none
returns-then-value-from-clause-none c =
    let above : greatest_integer < 10 * c.loop-text.value + (get_or c.loop-text.text.now 0 0 - 48) = omega (arith, c.if-value-from.true, c.from.ensures, c.from-then-is_ascii_digit.ensures) in
    value_after-above greatest_integer c.loop-text.value _ c.loop-text.text.now c.in-len1-up.len_at_least (sym c.is_ascii_digit.ensures.value ∙ c.if-is_ascii_digit.true) c.loop-text.invariant.0 above
