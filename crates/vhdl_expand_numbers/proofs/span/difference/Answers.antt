use Rattle.vhdl_expand_rules.specs.Computed.{span, difference_span}
use Rattle.vhdl_expand_numbers.specs.Views.{span_view}
use Rattle.vhdl_expand_numbers.proofs.Near.{near_least, near_greatest, difference_word}
use Rattle.vhdl_expand_numbers.proofs.span.difference.Goals as goal

pub returns : goal.returns
unfolding difference_span
returns c =
    let l = span_view c.args.left in
    let r = span_view c.args.right in
    let low = difference_word l.least r.greatest (near_least l c.requires.left) (near_greatest r c.requires.right) in
    let high = difference_word l.greatest r.least (near_greatest l c.requires.left) (near_least r c.requires.right) in
    λ i. span (low i) (high i)
