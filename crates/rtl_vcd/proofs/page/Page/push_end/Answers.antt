use Rattle.std.proofs.Common.{◌++◌, take, ap, ◌∙◌}
use Rattle.rtl_vcd.proofs.page.Page.push_end.Goals as goal

pub returns : goal.returns
returns c =
    let end = c.args.end.now in
    c.put.ensures.text ∙ ap (λ held. held ++ take end.len end.bytes) c.self.view_is
