use Rattle.std.proofs.Common.{map, ap, arith}
use Rattle.vhdl_expand_rules.specs.Statements.{numbers_count}
use Rattle.vhdl_expand_rules.proofs.Items.{none_left}
use Rattle.vhdl_expand_numbers.specs.Views.{limits_view}
use Rattle.vhdl_expand_choices.specs.Views.{spanned_view}
use Rattle.vhdl_expand_choices.proofs.spread.numbers_count.Goals as goal

pub returns : goal.returns
returns c =
    let none = ap (λ xs. numbers_count (limits_view c.args.all) (map spanned_view xs)) (none_left c.args.spans.now c.loop-span.span-index (omega arith)) in
    omega (arith, none, c.loop-span.invariant.0, c.loop-span.invariant.1)
