use Rattle.std.proofs.Common.{◌≤◌, ◌+◌, ◌-◌, Bool, true, List, length, replicate, ap, sym, ◌∙◌, arith}
use Rattle.std.proofs.lemmas.List.{with_items_is}
use Rattle.std.proofs.lemmas.List.Edits.{sets}
use borrow.Rule.Slice.PartMut.{put_mid}
use Rattle.rtl_drives.proofs.Assigned.{length_sets, part_filled}
use Rattle.rtl_drives.proofs.Marking.{marked_sets}
use Rattle.rtl_drives.proofs.marks.fill.Goals as goal

pub returns : goal.returns
returns c =
    let marks = c.args.marks.now in
    let first = c.args.first in
    let many = c.args.len in
    let was = c.deref_mut.result.now in
    let within : first + many ≤ length was = omega (arith, c.requires, ap length c.deref_mut.ensures.value) in
    let is = part_filled first many was c.fill.new.self true within (c.fill.ensures.after (λ y h. h))
    ∙ ap (λ (ms : List Bool). sets ms first (replicate many true)) c.deref_mut.ensures.value in
    with_items_is marks (put_mid first (first + many - first) was c.fill.new.self)
    (omega (arith, ap length is, length_sets (replicate many true) marks.items first, marks.ok.0))
    ∙ is ∙ sym (marked_sets first many marks.items)
