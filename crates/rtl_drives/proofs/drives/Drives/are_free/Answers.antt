use Rattle.std.proofs.Common.{◌+◌, Bool, get_or, ap, sym, ◌∙◌}
use Rattle.rtl_drives.specs.Outcomes.{Outcome}
use Rattle.rtl_drives.specs.Tracked.{entry, entry_of}
use Rattle.rtl_drives.proofs.Assigned.{entry_at}
use Rattle.rtl_drives.proofs.drives.Drives.are_free.Goals as goal

pub returns-clause-free : goal.returns-clause-free
returns-clause-free c = λ are k l.
    let d = c.self.inside in
    let values = d.values.items in
    let place = c.args.span.first + k in
    ap (λ (o : Outcome). entry o.entries place) (sym c.self.view_is) ∙ entry_at d.marks values place
    ∙ ap (λ (b : Bool). entry_of b (get_or values place 0)) (c.are_free.ensures.free are k l)
