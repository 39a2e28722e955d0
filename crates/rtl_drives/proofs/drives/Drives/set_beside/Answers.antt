use Rattle.std.proofs.Common.{◌≡◌, ℕ, ◌+◌, ◌<◌, ◌≤◌, Bool, true, List, [], ◌∷◌, ◌++◌, length, set, length-append, Option, Some, None, arith, refl, ap, sym, subst, ◌∙◌}
use Rattle.std.specs.Option.{is_some}
use Rattle.std.proofs.lemmas.List.{length-set}
use Rattle.std.proofs.lemmas.List.Elements.{All-push}
use Rattle.rtl_drives.specs.declared.spans.Span.{Span}
use Rattle.rtl_drives.specs.declared.drives.Drives.TheInside.{Inside}
use Rattle.rtl_drives.specs.Outcomes.{Outcome}
use Rattle.rtl_drives.specs.Spans.{places_of}
use Rattle.rtl_drives.specs.Tracked.{AreAssigned, LieWithin, entries_of, outcome_of, IsTracked}
use Rattle.rtl_drives.proofs.Assigned.{as_many_entries, is_marked, set_marked, set_again}
use Rattle.rtl_drives.proofs.Places.{places_more}
use Rattle.rtl_drives.proofs.Listing.{room_left, listed_more, listed_again}
use Rattle.rtl_drives.proofs.drives.Drives.set_beside.Goals as goal
use Rattle.rtl_drives.proofs.drives.Drives.set_beside.Goals.{then-not-has, else-not-has}

module _ (d : Inside) (I : IsTracked d) (o : Outcome) (is : outcome_of d ≡ o) (place : ℕ) (there : place < length o.entries) where
  there_marked : place < length d.marks
  there_marked = let many = ap (λ (o : Outcome). length o.entries) is in omega (arith, there, many, as_many_entries d.marks d.values.items)

  there_entry : place < length (entries_of d.marks d.values.items)
  there_entry = let l = there_marked in omega (arith, l, as_many_entries d.marks d.values.items)

  there_value : place < length d.values.items
  there_value = let l = there_marked in omega (arith, l, I.each_value)

pub push_reserved-requires : goal.push_reserved-requires
push_reserved-requires c =
    let d = c.self.inside in
    let I = c.self.invariant in
    let place = c.args.place in
    let entries = entries_of d.marks d.values.items in
    let free = sym c.has.ensures ∙ c.if-not-has.true in
    let l = room_left is_some None entries (places_of d.assigned.items) I.assigned place (Some c.args.value)
    (there_entry d I c.args.self.now c.self.view_is place c.requires) refl (is_marked d.marks d.values.items place ∙ free) in
    omega (arith, l, I.few, I.reserved, as_many_entries d.marks d.values.items)

pub invariant_of-self : goal.invariant_of-self
invariant_of-self c =
    let d = c.self.inside in
    let I = c.self.invariant in
    let place = c.args.place in
    let value = c.args.value in
    let marks = d.marks in
    let values = d.values.items in
    let spans = d.assigned.items in
    let places = places_of spans in
    let entries = entries_of marks values in
    let span : Span = record { first = place; len = 1 } in
    let marked = there_marked d I c.args.self.now c.self.view_is place c.requires in
    let within = there_entry d I c.args.self.now c.self.view_is place c.requires in
    let valued = there_value d I c.args.self.now c.self.view_is place c.requires in
    elim c.if-not-has.branch [
      | then-not-has w ↦
          let free = is_marked marks values place ∙ sym c.has.ensures ∙ w.if-not-has.true in
          let pushed = w.push_reserved.new.self.items in
          let all : places_of pushed ≡ places ++ place ∷ [] = ap places_of w.push_reserved.ensures.items ∙ places_more spans span in
          let long = ap length all ∙ length-append places (place ∷ []) in
          let more = ap length w.push_reserved.ensures.items ∙ length-append spans (span ∷ []) in
          let now = w.set.new.self in
          let many : length now ≡ length marks = ap (λ (ms : List Bool). length ms) w.set.ensures ∙ length-set marks place true in
          let are : entries_of now (set values place value) ≡ set entries place (Some value) =
          ap (λ (ms : List Bool). entries_of ms (set values place value)) w.set.ensures ∙ set_marked marks values place value valued in
          rw w.self-inside-is (record {
            each_value = length-set values place value ∙ I.each_value ∙ sym many;
            assigned = subst (λ (es : List (Option ℕ)). AreAssigned es (places_of pushed)) (sym are)
                (rw all (listed_more is_some None entries places I.assigned place (Some value) within refl free));
            within = subst (λ (n : ℕ). LieWithin n pushed) (sym many)
                (subst (λ (ss : List Span). LieWithin (length marks) ss) (sym w.push_reserved.ensures.items)
                (All-push (λ (s : Span). s.first + s.len ≤ length marks) spans span I.within (omega (arith, marked))));
            few = omega (arith, I.few, long, more);
            reserved = omega (arith, I.reserved, w.push_reserved.ensures.capacity, many);
            each_element = I.each_element;
            laid_fit = I.laid_fit;
            bits_fit = I.bits_fit;
          })
      | else-not-has w ↦
          let some = sym c.has.ensures ∙ w.if-not-has.false in
          rw w.self-inside-is (record {
            each_value = length-set values place value ∙ I.each_value;
            assigned = subst (λ (es : List (Option ℕ)). AreAssigned es places) (sym (set_again marks values place value valued some))
                (listed_again is_some None entries places I.assigned place (Some value) within refl (is_marked marks values place ∙ some));
            within = I.within;
            few = I.few;
            reserved = I.reserved;
            each_element = I.each_element;
            laid_fit = I.laid_fit;
            bits_fit = I.bits_fit;
          })
    ]

pub returns : goal.returns
returns c =
    let d = c.self.inside in
    let I = c.self.invariant in
    let place = c.args.place in
    let value = c.args.value in
    let valued = there_value d I c.args.self.now c.self.view_is place c.requires in
    let with_entries : List (Option ℕ) → Outcome = λ es. record (outcome_of d) { entries = es } in
    let after = ap (λ (o : Outcome). record o { entries = set o.entries place (Some value) }) c.self.view_is in
    elim c.if-not-has.branch [
      | then-not-has w ↦ rw w.self-inside-is
          (ap with_entries (ap (λ (ms : List Bool). entries_of ms (set d.values.items place value)) w.set.ensures ∙ set_marked d.marks d.values.items place value valued) ∙ after)
      | else-not-has w ↦
          let some = sym c.has.ensures ∙ w.if-not-has.false in
          rw w.self-inside-is (ap with_entries (set_again d.marks d.values.items place value valued some) ∙ after)
    ]
