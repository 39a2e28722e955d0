use Rattle.std.proofs.Common.{◌∙◌, ◌*ℤ◌}
use Rattle.vhdl_expand_rules.specs.Computed.{span, product_span}
use Rattle.vhdl_expand_numbers.specs.Views.{span_view}
use Rattle.vhdl_expand_numbers.proofs.Near.{near_least, near_greatest, product_word, less_of, greater_of, word}
use Rattle.vhdl_expand_numbers.proofs.span.product.Goals as goal

pub returns : goal.returns
unfolding product_span
returns c =
    let l = span_view c.args.left in
    let r = span_view c.args.right in
    let ll = near_least l c.requires.left in
    let lg = near_greatest l c.requires.left in
    let rl = near_least r c.requires.right in
    let rg = near_greatest r c.requires.right in
    let p = product_word l.least r.least ll rl in
    let q = product_word l.least r.greatest ll rg in
    let s = product_word l.greatest r.least lg rl in
    let t = product_word l.greatest r.greatest lg rg in
    let a = less_of (l.least *ℤ r.least) (l.least *ℤ r.greatest) c.min.result _ _ p q c.min.ensures.value in
    let b = less_of (l.greatest *ℤ r.least) (l.greatest *ℤ r.greatest) c.min-2.result _ _ s t c.min-2.ensures.value in
    let d = less_of _ _ c.min-3.result _ _ (word c.min.result c.min.type_inv ∙ a) (word c.min-2.result c.min-2.type_inv ∙ b) c.min-3.ensures.value in
    let e = greater_of (l.least *ℤ r.least) (l.least *ℤ r.greatest) c.max.result _ _ p q c.max.ensures.value in
    let f = greater_of (l.greatest *ℤ r.least) (l.greatest *ℤ r.greatest) c.max-2.result _ _ s t c.max-2.ensures.value in
    let g = greater_of _ _ c.max-3.result _ _ (word c.max.result c.max.type_inv ∙ e) (word c.max-2.result c.max-2.type_inv ∙ f) c.max-3.ensures.value in
    λ i. span ((word c.min-3.result c.min-3.type_inv ∙ d) i) ((word c.max-3.result c.max-3.type_inv ∙ g) i)
