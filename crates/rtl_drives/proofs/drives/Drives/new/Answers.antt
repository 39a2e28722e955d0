use Rattle.std.proofs.Common.{◌≡◌, ℕ, Bool, false, List, [], length, replicate, Option, None, ap, sym, subst, ◌∙◌, refl, arith}
use Rattle.std.proofs.lemmas.List.{length-replicate}
use Rattle.rtl_drives.specs.declared.spans.Span.{Span}
use Rattle.rtl_drives.specs.Spans.{places_of}
use Rattle.rtl_drives.specs.Tracked.{AreAssigned, entries_of}
use Rattle.rtl_drives.proofs.Assigned.{no_marks, none_assigned}
use Rattle.rtl_drives.proofs.drives.Drives.new.Goals as goal

entries_are : (c : goal.In_ok-with_capacity-3) → entries_of c.in_ok-new.field-0 c.in_ok-vec.field-0.items ≡ replicate c.args.drivers None
entries_are c = ap (λ (ms : List Bool). entries_of ms c.in_ok-vec.field-0.items) c.in_ok-new.ensures ∙ no_marks c.args.drivers c.in_ok-vec.field-0.items

pub invariant_of-result : goal.invariant_of-result
invariant_of-result c =
    let many : length c.in_ok-new.field-0 ≡ c.args.drivers = ap length c.in_ok-new.ensures ∙ length-replicate c.args.drivers false in
    let values : length c.in_ok-vec.field-0.items ≡ c.args.drivers = ap length (c.in_ok-vec.ensures.items_if_clones_equal (λ y h. h)) ∙ length-replicate c.args.drivers 0 in
    let none : length c.in_ok-with_capacity.field-0.items ≡ 0 = ap length c.in_ok-with_capacity.ensures.items in
    record {
      each_value = values ∙ sym many;
      assigned = subst (λ (spans : List Span). AreAssigned (entries_of c.in_ok-new.field-0 c.in_ok-vec.field-0.items) (places_of spans)) (sym c.in_ok-with_capacity.ensures.items)
          (subst (λ (es : List (Option ℕ)). AreAssigned es []) (sym (entries_are c)) (none_assigned c.args.drivers));
      within = λ k e l. absurd (omega (arith, l, none));
      few = omega (arith, none);
      reserved = omega (arith, many, c.in_ok-with_capacity.ensures.capacity);
      each_element = ap length c.in_ok-from_slice-2.ensures.items ∙ sym (ap length c.in_ok-from_slice.ensures.items);
      laid_fit = c.in_ok-with_capacity-2.ensures.capacity;
      bits_fit = c.in_ok-with_capacity-3.ensures.capacity;
    }

pub returns : goal.returns
returns c = rw (entries_are c, c.in_ok-from_slice.ensures.items, c.in_ok-from_slice-2.ensures.items, c.in_ok-with_capacity-2.ensures.items, c.in_ok-with_capacity-3.ensures.items) refl
