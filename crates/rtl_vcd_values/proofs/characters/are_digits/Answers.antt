use Rattle.std.proofs.Common.{ℕ, ◌*◌, ◌<◌, take, refl, sym, ◌∙◌, w8, arith, length-take-le}
use Rattle.std.specs.Prelude.{replicate}
use Rattle.std.proofs.lemmas.Bool.{not-true}
use Rattle.std.proofs.lemmas.Simd.{chunk-fits, zip2_splat, splat_is_map, length-zip2, length-replicate}
use Rattle.rtl_vcd_values.proofs.Plain.{digits_from}
use Rattle.rtl_net_groups.proofs.Lanes.{same_from}
use Rattle.rtl_vcd_values.proofs.characters.are_digits.Goals as goal

pub returns : goal.returns
returns g c = λ e.
    let values = c.args.values.now in
    let n = g.row.LANES in
    let v = take n values in
    let long = length-take-le n values c.requires.there in
    let same = same_from _ _ (sym (not-true c.are_different.result e) ∙ c.are_different.ensures) in
    digits_from _ v (chunk-fits w8 0 n values c.type_inv.values) (sym (zip2_splat {Y = ℕ} _ v n 250 long) ∙ same ∙ splat_is_map v n 2 long) refl

pub are_different-requires : goal.are_different-requires
are_different-requires g c =
    let n = g.row.LANES in
    let size : n * 1 < 9223372036854775808 = omega (arith, c.requires.most) in
    let long = length-take-le n c.args.values.now c.requires.there in
    let before = length-zip2 _ (take n c.args.values.now) (replicate n 250) (long ∙ sym (length-replicate n 250)) ∙ long in
    (size, (c.requires.most, (before, length-replicate n 2)))
