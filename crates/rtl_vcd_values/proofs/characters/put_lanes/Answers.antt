use Rattle.std.proofs.Common.{not, take, ap, ap₂, ◌∙◌, length-take-le}
use Rattle.std.proofs.lemmas.List.{length-map}
use Rattle.std.proofs.lemmas.Simd.{length-put_chunk}
use Rattle.std.specs.Str.{bytes_eq}
use Rattle.rtl_vcd_values.specs.Values.{character}
use Rattle.rtl_vcd_values.proofs.Plain.{plain_tells}
use Rattle.rtl_vcd_values.proofs.Puts.{put_many, stored}
use Rattle.rtl_vcd_values.proofs.characters.put_lanes.Goals as goal

pub returns-then-are_digits : goal.returns-then-are_digits
returns-then-are_digits g c =
    let old = c.args.old.now in
    let new = c.args.new.now in
    put_many c.args.room.now c.put_digits.new.room c.args.from g.row.LANES old new c.are_different-differ.result c.requires.after
    c.put_digits.ensures.text c.put_digits.ensures.long
    (c.are_different-differ.ensures ∙ ap₂ (λ xs ys. not (bytes_eq xs ys)) c.plain_lanes.ensures c.plain_lanes-then-are_digits.ensures
    ∙ ap not (plain_tells g.row.LANES old new c.type_inv.old c.type_inv.new (c.are_digits.ensures c.if-are_digits.true)))

pub returns : goal.returns
returns g c =
    let new = c.args.new.now in
    let n = g.row.LANES in
    let room = c.args.room.now in
    put_many room _ c.args.from n c.args.old.now new c.are_different-is_other.result c.requires.after
    (stored room c.args.from n c.characters-text.ensures (length-map (take n new) character ∙ length-take-le n new c.requires.after) c.requires.room)
    (length-put_chunk c.args.from room c.characters-text.result)
    (c.are_different-is_other.ensures ∙ ap₂ (λ xs ys. not (bytes_eq xs ys)) c.characters.ensures c.characters-text.ensures)
