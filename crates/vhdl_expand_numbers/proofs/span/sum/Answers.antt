use Rattle.vhdl_expand_rules.specs.Computed.{span, sum_span}
use Rattle.vhdl_expand_numbers.specs.Views.{span_view}
use Rattle.vhdl_expand_numbers.proofs.Near.{near_least, near_greatest, sum_word}
use Rattle.vhdl_expand_numbers.proofs.span.sum.Goals as goal

pub returns : goal.returns
unfolding sum_span
returns c =
    let l = span_view c.args.left in
    let r = span_view c.args.right in
    let low = sum_word l.least r.least (near_least l c.requires.left) (near_least r c.requires.right) in
    let high = sum_word l.greatest r.greatest (near_greatest l c.requires.left) (near_greatest r c.requires.right) in
    λ i. span (low i) (high i)
