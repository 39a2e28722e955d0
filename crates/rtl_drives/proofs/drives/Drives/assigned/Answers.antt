use Rattle.std.proofs.Common.{◌≡◌, ℕ, List, length, ap, sym, subst, ◌∙◌}
use Rattle.rtl_drives.specs.declared.spans.Span.{Span}
use Rattle.rtl_drives.specs.Outcomes.{Outcome}
use Rattle.rtl_drives.specs.Tracked.{LieWithin}
use Rattle.rtl_drives.proofs.Assigned.{as_many_entries}
use Rattle.rtl_drives.proofs.drives.Drives.assigned.Goals as goal

pub returns-clause-within : goal.returns-clause-within
returns-clause-within c =
    let d = c.self.inside in
    let many : length c.args.self.now.entries ≡ length d.marks =
    sym (ap (λ (o : Outcome). length o.entries) c.self.view_is) ∙ as_many_entries d.marks d.values.items in
    subst (λ (spans : List Span). LieWithin (length c.args.self.now.entries) spans) (sym c.as_slice.ensures.value)
    (subst (λ (n : ℕ). LieWithin n d.assigned.items) (sym many) c.self.invariant.within)
