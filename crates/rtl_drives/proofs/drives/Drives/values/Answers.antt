use Rattle.std.proofs.Common.{◌≡◌, ℕ, ◌+◌, true, false, List, get_or, ap, sym, ◌∙◌, arith}
use Rattle.std.specs.List.{slice_index, between}
use Rattle.std.specs.Option.{is_some}
use Rattle.std.proofs.lemmas.List.Edits.{get_or-between}
use Rattle.rtl_drives.specs.Outcomes.{Outcome}
use Rattle.rtl_drives.specs.Tracked.{entry, entry_of}
use Rattle.rtl_drives.proofs.Assigned.{entry_at, is_marked}
use Rattle.rtl_drives.proofs.drives.Drives.values.Goals as goal

pub returns-clause-entries : goal.returns-clause-entries
returns-clause-entries c = λ k l some.
    let marks = c.self.inside.marks in
    let values = c.self.inside.values.items in
    let first = c.args.span.first in
    let end = first + c.args.span.len in
    let place = first + k in
    let m : get_or marks place false ≡ true = sym (is_marked marks values place) ∙ ap (λ (o : Outcome). is_some (entry o.entries place)) c.self.view_is ∙ some in
    let v : get_or values place 0 ≡ slice_index (between first end c.deref.result.now) k =
    ap (λ (vs : List ℕ). get_or vs place 0) (sym c.deref.ensures.value) ∙ sym (get_or-between c.deref.result.now first end k 0 (omega (arith, l))) in
    ap (λ (o : Outcome). entry o.entries place) (sym c.self.view_is) ∙ entry_at marks values place ∙ (λ i. entry_of (m i) (v i))
