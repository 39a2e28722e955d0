use Rattle.std.proofs.Common.{ℕ, take, refl, length-take-le}
use Rattle.std.proofs.lemmas.Simd.{zip2_splat}
use Rattle.rtl_vcd_values.specs.Puts.{plain}
use Rattle.rtl_vcd_values.proofs.Lanes.{lanes_said}
use Rattle.rtl_vcd_values.proofs.characters.plain_lanes.Goals as goal

pub returns : goal.returns
returns g c =
    let values = c.args.values.now in
    let n = g.row.LANES in
    lanes_said n _ plain values c.type_inv.values (zip2_splat {Y = ℕ} _ (take n values) n 251 (length-take-le n values c.requires)) refl
