use Rattle.std.proofs.Common.{◌≡◌, ℕ, ◌+◌, ◌-◌, ◌<◌, ◌≤◌, ◌++◌, [], ◌∷◌, Bool, List, length, replicate, true, rules, Option, Some, None, ap, sym, subst, ◌∙◌, arith, refl, length-append}
use Rattle.std.specs.List.{range_with_len}
use Rattle.std.specs.Option.{is_some}
use Rattle.std.specs.Vec.{with_items}
use Rattle.std.proofs.lemmas.Bool.{eqb-true}
use Rattle.std.proofs.lemmas.List.{with_items_is}
use Rattle.std.proofs.lemmas.List.Edits.{sets}
use Rattle.std.proofs.lemmas.List.Elements.{All-push}
use Rattle.std.proofs.lemmas.List.FromFn.{length-range_with_len}
use borrow.Rule.Slice.PartMut.{put_mid}
use Rattle.rtl_drives.specs.declared.spans.Span.{Span}
use Rattle.rtl_drives.specs.Outcomes.{Outcome}
use Rattle.rtl_drives.specs.Spans.{places_of, written}
use Rattle.rtl_drives.specs.Tracked.{entry, entries_of, outcome_of, AreAssigned, LieWithin}
use Rattle.rtl_drives.proofs.Assigned.{as_many_entries, length_sets, part_made, set_all}
use Rattle.rtl_drives.proofs.Listing.{room_left}
use Rattle.rtl_drives.proofs.Marking.{length-marked, marked_sets}
use Rattle.rtl_drives.proofs.Places.{no_mark_yet, listed_written, places_more}
use Rattle.rtl_drives.proofs.drives.Drives.set_free.Goals as goal

pub overflow_add-end : goal.overflow_add-end
overflow_add-end g c = search (rules, c.requires.there, c.drivers-drivers.ensures)

pub push_reserved-requires : goal.push_reserved-requires
push_reserved-requires g c =
    let d = c.self.inside in
    let entries = entries_of d.marks d.values.items in
    let first = c.args.span.first in
    let all_there = rw (← c.self.view_is) at c.requires.there in
    let all_free = rw (← c.self.view_is) at c.requires.free in
    let at : first ≡ first + 0 = omega arith in
    let there : first < length entries = omega (arith, all_there, c.requires.some) in
    let free = ap (λ (place : ℕ). is_some (entry entries place)) at ∙ ap is_some (all_free 0 c.requires.some) in
    let l = room_left is_some None entries (places_of d.assigned.items) c.self.invariant.assigned first (Some 0) there refl free in
    omega (arith, l, c.self.invariant.few, c.self.invariant.reserved, as_many_entries d.marks d.values.items)

pub fill-requires-clause-within : goal.fill-requires-clause-within
fill-requires-clause-within g c =
    let d = c.self.inside in
    let many = ap (λ (o : Outcome). length o.entries) c.self.view_is in
    omega (arith, c.requires.there, many, as_many_entries d.marks d.values.items)

pub fill-requires-clause-first : goal.fill-requires-clause-first
fill-requires-clause-first g c none =
    let d = c.self.inside in
    no_mark_yet d.marks d.values.items d.assigned.items c.self.invariant.assigned (omega (arith, eqb-true _ _ (sym c.is_empty-are_first.ensures ∙ none), d.assigned.ok.0))

-- the span ends within the marks
ends : (g : _) (c : goal.After-push_reserved g) → c.args.span.first + c.args.span.len ≤ length c.self.inside.marks
ends g c =
    let d = c.self.inside in
    let many = ap (λ (o : Outcome). length o.entries) c.self.view_is in
    omega (arith, c.requires.there, many, as_many_entries d.marks d.values.items)

abbrev made : (g : _) → goal.After-push_reserved g → List ℕ
made g c = g.M.Maker.made c.args.maker.now

abbrev values_of : (g : _) → goal.After-push_reserved g → List ℕ
values_of g c = (with_items c.self.inside.values (put_mid c.args.span.first (c.args.span.first + c.args.span.len - c.args.span.first) c.deref_mut.result.now c.make.new.out)).items

values_are : (g : _) (c : goal.After-push_reserved g) → values_of g c ≡ sets c.self.inside.values.items c.args.span.first (made g c)
values_are g c =
    let values = c.self.inside.values in
    let first = c.args.span.first in
    let len = c.args.span.len in
    let was = c.deref_mut.result.now in
    let end = ends g c in
    let within : first + len ≤ length was = omega (arith, end, c.self.invariant.each_value, ap length c.deref_mut.ensures.value) in
    let is = part_made first len was c.make.new.out (made g c) c.requires.many within c.make.ensures
    ∙ ap (λ (vs : List ℕ). sets vs first (made g c)) c.deref_mut.ensures.value in
    with_items_is values (put_mid first (first + len - first) was c.make.new.out)
    (omega (arith, ap length is, length_sets (made g c) values.items first, values.ok.0)) ∙ is

entries_are : (g : _) (c : goal.After-push_reserved g) → entries_of c.fill.new.self (values_of g c)
    ≡ written c.args.span.first (made g c) (entries_of c.self.inside.marks c.self.inside.values.items)
entries_are g c =
    let end = ends g c in
    let first = c.args.span.first in
    let marks = c.fill.ensures ∙ marked_sets first c.args.span.len c.self.inside.marks
    ∙ ap (λ (n : ℕ). sets c.self.inside.marks first (replicate n true)) (sym c.requires.many) in
    (λ i. entries_of (marks i) (values_are g c i))
    ∙ set_all first c.self.inside.marks c.self.inside.values.items (made g c) (omega (arith, end, c.requires.many, c.self.invariant.each_value))

pub invariant_of-self : goal.invariant_of-self
invariant_of-self g c =
    let d = c.self.inside in
    let I = c.self.invariant in
    let spans = d.assigned.items in
    let first = c.args.span.first in
    let new = made g c in
    let many = c.args.span.len in
    let span : Span = c.args.span in
    let pushed = c.push_reserved.new.self.items in
    let within = rw (← c.self.view_is) at c.requires.there in
    let free = rw (← c.self.view_is) at c.requires.free in
    let all : places_of pushed ≡ places_of spans ++ range_with_len first many = ap places_of c.push_reserved.ensures.items ∙ places_more spans span in
    let told : places_of pushed ≡ places_of spans ++ range_with_len first (length new) = all ∙ ap (λ (n : ℕ). places_of spans ++ range_with_len first n) (sym c.requires.many) in
    let long : length (places_of pushed) ≡ length (places_of spans) + many =
    ap length all ∙ length-append (places_of spans) (range_with_len first many) ∙ ap (λ (n : ℕ). length (places_of spans) + n) (length-range_with_len first many) in
    let more : length pushed ≡ length spans + 1 = ap length c.push_reserved.ensures.items ∙ length-append spans (span ∷ []) in
    let as_many : length c.fill.new.self ≡ length d.marks = ap (λ (ms : List Bool). length ms) c.fill.ensures ∙ length-marked first many d.marks in
    record {
      each_value = ap length (values_are g c) ∙ length_sets new d.values.items first ∙ I.each_value ∙ sym as_many;
      assigned = subst (λ (es : List (Option ℕ)). AreAssigned es (places_of pushed)) (sym (entries_are g c))
          (rw told (listed_written first new (entries_of d.marks d.values.items) (places_of spans) I.assigned
          (λ k l. omega (arith, l, within, c.requires.many)) (λ k l. free k (omega (arith, l, c.requires.many)))));
      within = subst (λ (n : ℕ). LieWithin n pushed) (sym as_many)
          (subst (λ (ss : List Span). LieWithin (length d.marks) ss) (sym c.push_reserved.ensures.items)
          (All-push (λ (s : Span). s.first + s.len ≤ length d.marks) spans span I.within (ends g c)));
      few = omega (arith, I.few, c.requires.some, long, more);
      reserved = omega (arith, I.reserved, c.push_reserved.ensures.capacity, as_many);
      each_element = I.each_element;
      laid_fit = I.laid_fit;
      bits_fit = I.bits_fit;
    }

pub returns : goal.returns
returns g c =
    let with_entries : List (Option ℕ) → Outcome = λ es. record (outcome_of c.self.inside) { entries = es } in
    ap with_entries (entries_are g c)
    ∙ ap (λ (o : Outcome). record o { entries = written c.args.span.first (made g c) o.entries }) c.self.view_is
