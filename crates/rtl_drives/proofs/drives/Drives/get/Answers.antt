use Rattle.std.proofs.Common.{◌≡◌, ◌<◌, Bool, true, length, get_or, ap, sym, ◌∙◌, arith}
use Rattle.std.proofs.lemmas.List.{get_or_default}
use Rattle.rtl_drives.specs.Outcomes.{Outcome}
use Rattle.rtl_drives.specs.Tracked.{entry, entry_of}
use Rattle.rtl_drives.proofs.Assigned.{as_many_entries, entry_at}
use Rattle.rtl_drives.proofs.drives.Drives.get.Goals as goal
use Rattle.rtl_drives.proofs.drives.Drives.get.Goals.{After-has}

-- the entry, by the mark
is_entry : (c : After-has) {b : Bool} → c.has.result ≡ b → entry_of b (get_or c.self.inside.values.items c.args.place 0) ≡ entry c.args.self.now.entries c.args.place
is_entry c is =
    let marks = c.self.inside.marks in
    let values = c.self.inside.values.items in
    ap (λ (b : Bool). entry_of b (get_or values c.args.place 0)) (sym is ∙ c.has.ensures) ∙ sym (entry_at marks values c.args.place)
    ∙ ap (λ (o : Outcome). entry o.entries c.args.place) c.self.view_is

pub returns-then-has : goal.returns-then-has
returns-then-has c =
    let marks = c.self.inside.marks in
    let values = c.self.inside.values.items in
    let many = ap (λ (o : Outcome). length o.entries) c.self.view_is in
    let valued : c.args.place < length values = omega (arith, c.requires, many, as_many_entries marks values, c.self.invariant.each_value) in
    ap (entry_of true) (c.index.ensures ∙ sym (get_or_default values c.args.place 0 c.index.result.now valued)) ∙ is_entry (goal.at.returns-then-has c).After-has c.if-has.true

pub returns-else-has : goal.returns-else-has
returns-else-has c = is_entry (goal.at.returns-else-has c).After-has c.if-has.false
