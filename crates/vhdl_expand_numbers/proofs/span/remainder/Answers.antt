use Rattle.std.proofs.Common.{◌∙◌, refl, ap, cond, arith, pos, ◌-ℤ◌, neg_ℤ}
use Rattle.std.specs.Prelude.{int_lt}
use Rattle.std.proofs.lemmas.Int.{ints}
use Rattle.vhdl_expand_rules.specs.Computed.{span, maximum, remainder_span}
use Rattle.vhdl_expand_numbers.specs.Views.{span_view}
use Rattle.vhdl_expand_numbers.proofs.Near.{near_least, near_greatest, near_word, greater_turned, reach_near, less_reach, opposite_reach, most_near, word}
use Rattle.vhdl_expand_numbers.proofs.span.remainder.Goals as goal

pub overflow_sub-reach : goal.overflow_sub-reach
overflow_sub-reach c =
    let r = reach_near (span_view c.args.divisor) c.reach.result c.requires.right c.reach.ensures in
    omega (arith, ints)

pub returns : goal.returns
unfolding remainder_span
returns c =
    let s = span_view c.args.left in
    let t = span_view c.args.divisor in
    let r = reach_near t c.reach.result c.requires.right c.reach.ensures in
    let e = greater_turned (c.reach.result -ℤ pos 1) (pos 0) c.max-most.result _ _ (less_reach c.reach.result r) refl c.max-most.ensures.value in
    let most = e ∙ ap (λ x. maximum (pos 0) (x -ℤ pos 1)) c.reach.ensures in
    let n = most_near c.reach.result c.max-most.result r e in
    let p = near_word s.least (near_least s c.requires.left) in
    let q = near_word s.greatest (near_greatest s c.requires.left) in
    let minus = opposite_reach c.max-most.result n ∙ ap neg_ℤ most in
    let plus = word c.max-most.result c.max-most.type_inv ∙ most in
    let low = word c.left_of.result c.left_of.type_inv ∙ c.left_of.ensures ∙ (λ i. cond (int_lt (p i) (pos 0)) (minus i) (pos 0)) in
    let high = word c.left_of-2.result c.left_of-2.type_inv ∙ c.left_of-2.ensures ∙ (λ i. cond (int_lt (pos 0) (q i)) (plus i) (pos 0)) in
    λ i. span (low i) (high i)
