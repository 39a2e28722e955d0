use Rattle.std.proofs.Common.{◌-◌, ◌^◌, ◌<◌, ◌∙◌, arith}
use Rattle.std.proofs.Math.Pow.{pow-lt}
use Rattle.vhdl_expand_numbers.proofs.TopDigit.{top_digits}
use Rattle.vhdl_expand_numbers.proofs.relations.top_digit.Goals as goal

pub returns : goal.returns
returns c =
    let small : 2 ^ (c.args.len - 1) < 2 ^ 64 = pow-lt {i = c.args.len - 1} {j = 64} (omega (arith, c.requires.some, c.requires.few)) in
    c.of_nat.ensures.list ∙ top_digits c.args.len _ c.requires.some (omega (arith, small))
