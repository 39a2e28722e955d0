use Rattle.std.proofs.Common.{◌∙◌, refl, neg_ℤ, pos}
use Rattle.vhdl_expand_rules.specs.Computed.{span, maximum, magnitude_span}
use Rattle.vhdl_expand_numbers.specs.Views.{span_view}
use Rattle.vhdl_expand_numbers.proofs.Near.{near_least, near_greatest, near_word, opposite_word, greater_of, greater_turned, word}
use Rattle.vhdl_expand_numbers.proofs.span.magnitude.Goals as goal

pub returns : goal.returns
unfolding magnitude_span
returns c =
    let s = span_view c.args.operand in
    let low = near_least s c.requires in
    let high = near_greatest s c.requires in
    let below = greater_of s.least (neg_ℤ s.greatest) c.max.result _ _ (near_word s.least low) (opposite_word s.greatest high) c.max.ensures.value in
    let above = greater_turned (maximum s.least (neg_ℤ s.greatest)) (pos 0) c.max-2.result _ _ (word c.max.result c.max.type_inv ∙ below) refl c.max-2.ensures.value in
    λ i. span ((word c.max-2.result c.max-2.type_inv ∙ above) i) ((word c.reach.result c.reach.type_inv ∙ c.reach.ensures) i)
