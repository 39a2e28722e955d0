use Rattle.std.proofs.Common.{take, refl, ◌∙◌, length-take-le}
use Rattle.std.proofs.lemmas.List.{length-map}
use Rattle.std.proofs.lemmas.Simd.{zip2_of_maps, splat_is_map}
use Rattle.rtl_vcd_values.specs.Values.{character}
use Rattle.rtl_vcd_values.proofs.Plain.{digit_lanes}
use Rattle.rtl_vcd_values.proofs.Puts.{stored}
use Rattle.rtl_vcd_values.proofs.characters.put_digits.Goals as goal

pub returns-clause-text : goal.returns-clause-text
returns-clause-text g c =
    let values = c.args.values.now in
    let n = g.row.LANES in
    let v = take n values in
    let long = length-take-le n values c.requires.there in
    stored c.args.room.now c.args.from n
    (digit_lanes n _ values c.type_inv.values c.requires.digits (zip2_of_maps _ _ _ v c.plain_lanes.ensures (splat_is_map v n 50 long)) refl)
    (length-map v character ∙ long) c.requires.room
