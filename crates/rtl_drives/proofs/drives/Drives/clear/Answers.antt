use Rattle.std.proofs.Common.{◌≡◌, ℕ, Bool, false, List, [], length, replicate, reverse, Option, None, Contains, ap, sym, subst, ◌∙◌, arith}
use Rattle.std.proofs.lemmas.List.{length-replicate}
use Rattle.rtl_drives.specs.declared.spans.Span.{Span}
use Rattle.rtl_drives.specs.Outcomes.{Outcome}
use Rattle.rtl_drives.specs.Spans.{places_of}
use Rattle.rtl_drives.specs.Tracked.{AreAssigned, entries_of}
use Rattle.rtl_drives.proofs.Assigned.{as_many_entries, is_marked, no_marks, none_assigned}
use Rattle.rtl_drives.proofs.drives.Drives.clear.Goals as goal

pub take_off-requires-clause-all : goal.take_off-requires-clause-all
take_off-requires-clause-all c = λ place h.
    let d = c.self.inside in
    subst (λ (spans : List Span). Contains (places_of spans) place) (sym c.deref.ensures.value)
    (c.self.invariant.assigned.are_all place (is_marked d.marks d.values.items place ∙ h))

entries_are : (c : goal.After-clear) → entries_of c.take_off.new.self c.self.inside.values.items
    ≡ replicate (length c.self.inside.marks) None
entries_are c =
    let values = c.self.inside.values.items in
    ap (λ (ms : List Bool). entries_of ms values) c.take_off.ensures ∙ no_marks (length c.self.inside.marks) values

pub invariant_of-self : goal.invariant_of-self
invariant_of-self c =
    let d = c.self.inside in
    let I = c.self.invariant in
    let many : length c.take_off.new.self ≡ length d.marks = ap (λ (ms : List Bool). length ms) c.take_off.ensures ∙ length-replicate (length d.marks) false in
    let none : length c.clear.new.self.items ≡ 0 = ap length c.clear.ensures.items in
    record {
      each_value = I.each_value ∙ sym many;
      assigned = subst (λ (spans : List Span). AreAssigned (entries_of c.take_off.new.self d.values.items) (places_of spans)) (sym c.clear.ensures.items)
          (subst (λ (es : List (Option ℕ)). AreAssigned es []) (sym (entries_are c)) (none_assigned (length d.marks)));
      within = λ k e l. absurd (omega (arith, l, none));
      few = omega (arith, none);
      reserved = omega (arith, I.reserved, many, c.clear.ensures.capacity);
      each_element = I.each_element;
      laid_fit = I.laid_fit;
      bits_fit = I.bits_fit;
    }

pub returns : goal.returns
returns c =
    let d = c.self.inside in
    ap {B = Outcome} (λ (es : List (Option ℕ)). record { entries = es; starts = d.starts.items; variables = d.variables.items; room = d.room; laid = reverse d.laid.items; bits = reverse d.bits.items })
    (entries_are c ∙ ap (λ (n : ℕ). replicate {A = Option ℕ} n None) (sym (as_many_entries d.marks d.values.items)))
    ∙ ap (λ (o : Outcome). record o { entries = replicate (length o.entries) None }) c.self.view_is
