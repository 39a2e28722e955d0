use Rattle.std.proofs.Common.{ℕ, take, refl, length-take-le}
use Rattle.std.proofs.lemmas.Simd.{zip2_splat, zip2_of_maps, splat_is_map}
use Rattle.rtl_vcd_values.specs.Values.{character}
use Rattle.rtl_vcd_values.proofs.Lanes.{chosen, tops, lanes_said}
use Rattle.rtl_vcd_values.proofs.characters.characters.Goals as goal

pub returns : goal.returns
returns g c =
    let values = c.args.values.now in
    let n = g.row.LANES in
    let v = take n values in
    let long = length-take-le n values c.requires in
    let are_digits = tops _ v (zip2_of_maps _ _ _ v (zip2_splat {Y = ℕ} _ v n 250 long) (splat_is_map v n 2 long)) in
    let digits = zip2_of_maps _ _ _ v (zip2_splat {Y = ℕ} _ v n 1 long) (splat_is_map v n 48 long) in
    let are_open = tops _ v (zip2_splat {Y = ℕ} _ v n 4 long) in
    let others = chosen _ _ _ v are_open (splat_is_map v n 122 long) (splat_is_map v n 120 long) in
    lanes_said n _ character values c.type_inv.values (chosen _ _ _ v are_digits digits others) refl
