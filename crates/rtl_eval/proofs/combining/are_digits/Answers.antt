use Rattle.std.proofs.Common.{ℕ, List, length, map, w8, refl, sym, ap, ◌∙◌}
use Rattle.std.specs.Prelude.{bit_and, not, ◌==◌}
use Rattle.std.proofs.lemmas.Bool.{eqb-true}
use Rattle.std.proofs.lemmas.List.{length-map}
use Rattle.std.proofs.lemmas.Simd.{bitmask_splat, zip2_splat, length-chunk, chunk-fits, map-map}
use lib.Lanes.{chunk, mask_l}
use Rattle.rtl_eval.proofs.Lanes.{all_digits}
use Rattle.rtl_eval.proofs.combining.are_digits.Goals as goal

pub returns : goal.returns
returns g c good =
    let n = g.row.LANES in
    let codes = c.args.codes.now in
    let v = chunk c.args.at n codes in
    let long = length-chunk c.args.at n codes c.requires.within in
    let masked = zip2_splat {Y = ℕ} bit_and v n 250 long in
    let many = ap (λ (xs : List ℕ). length xs) masked ∙ length-map v (λ x. bit_and x 250) ∙ long in
    let none = sym (bitmask_splat w8 (λ a b. not (a == b)) _ n 2 many c.requires.most) ∙ eqb-true _ 0 good in
    all_digits (λ k. not (bit_and k 250 == 2)) v refl (chunk-fits w8 c.args.at n codes c.type_inv.codes)
    (ap mask_l (sym (map-map (λ x. not (x == 2)) (λ x. bit_and x 250) v)) ∙ ap (λ (xs : List ℕ). mask_l (map (λ x. not (x == 2)) xs)) (sym masked) ∙ none)
