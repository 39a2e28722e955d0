use Rattle.std.proofs.Common.{◌≡◌, ◌+◌, ◌-◌, ◌++◌, length, take, sym, ap, ◌∙◌, arith, length-take-le}
use borrow.Rule.Slice.PartMut.{put_mid}
use Rattle.rtl_vcd.proofs.Pages.{text_more}
use Rattle.rtl_vcd.proofs.page.Page.push_all.Goals as goal

pub returns-clause-bytes : goal.returns-clause-bytes
returns-clause-bytes c =
    let old = c.self.inside in
    let text = c.args.bytes.now in
    let held : length c.args.self.now ≡ old.len =
    ap length (sym c.self.view_is) ∙ length-take-le old.len old.bytes (omega (arith, c.self.invariant, c.self.told)) in
    ap (λ new. take (old.len + length text) (put_mid old.len (old.len + length text - old.len) old.bytes new)) c.copy_from_slice.ensures.after
    ∙ text_more old.bytes text old.len (omega (arith, held, c.requires.room, c.self.told))
    ∙ ap (λ held. held ++ text) c.self.view_is
