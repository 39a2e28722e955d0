use Rattle.std.proofs.Common.{◌∙◌, refl, ◌+ℤ◌, ◌-ℤ◌, pos}
use Rattle.vhdl_expand_rules.specs.Computed.{span, modulus_span}
use Rattle.vhdl_expand_numbers.specs.Views.{span_view}
use Rattle.vhdl_expand_numbers.proofs.Near.{near_least, near_greatest, more_word, less_word, less_turned, greater_turned, word}
use Rattle.vhdl_expand_numbers.proofs.span.modulus.Goals as goal

pub returns : goal.returns
unfolding modulus_span
returns c =
    let s = span_view c.args.divisor in
    let low = less_turned (s.least +ℤ pos 1) (pos 0) c.min.result _ _ (more_word s.least (near_least s c.requires)) refl c.min.ensures.value in
    let high = greater_turned (s.greatest -ℤ pos 1) (pos 0) c.max.result _ _ (less_word s.greatest (near_greatest s c.requires)) refl c.max.ensures.value in
    λ i. span ((word c.min.result c.min.type_inv ∙ low) i) ((word c.max.result c.max.type_inv ∙ high) i)
