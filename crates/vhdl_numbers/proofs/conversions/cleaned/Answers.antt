use Rattle.std.proofs.Common.{◌∙◌}
use Rattle.vhdl_numbers.proofs.Digits.{cleaned-digits}
use Rattle.vhdl_numbers.proofs.conversions.cleaned.Goals as goal

pub returns-clause-list : goal.returns-clause-list
returns-clause-list c = c.of_nat.ensures.list ∙ rw (c.len.ensures.len, c.unwrap_or.ensures, c.number.ensures) (cleaned-digits c.args.vector.now)
