-- Entries that are taken over, span by span.
use Rattle.std.proofs.Common.{◌≡◌, ℕ, ◌+◌, ◌<◌, ◌≤◌, List, Option, Some, None, arith, length, get_or, drop, ap, sym, subst, ◌∙◌, ◌⊎◌, inl, inr, Contains, IsSome}
use Rattle.std.specs.List.{range_with_len}
use Rattle.std.proofs.lemmas.Bool.{cases_lt}
use Rattle.std.proofs.lemmas.List.FromFn.{get_or-range_with_len, length-range_with_len}
use Rattle.rtl_drives.specs.declared.spans.Span.{Span}
use Rattle.rtl_drives.specs.Spans.{places_of}
use Rattle.rtl_drives.specs.Tracked.{AreAssigned, LieWithin}
use Rattle.rtl_drives.proofs.Places.{place_assigned}
use Rattle.rtl_net_groups.specs.Groups.{Grouping}
use Rattle.rtl_kernel.specs.drivers.Updates.{IsTaken}
use Rattle.rtl_kernel.specs.wakes.Woken.{AreDifferent}
use Rattle.rtl_kernel.proofs.Updating.{left_all, left_one, none_left, taken_more}
use Rattle.rtl_levels.specs.declared.state.State.{State}
use Rattle.rtl_levels.specs.Marks.{GetsOther}
use Rattle.rtl_levels.specs.Running.{IsNew, TakesPart, at_targets}
use Rattle.rtl_levels.specs.States.{Advances, GetValues, StandTogether, StateTakesOver, StateTakesPart}
use Rattle.rtl_levels.proofs.Advancing.{advances_none, advances_then, advances_wider}
use Rattle.rtl_levels.proofs.Taking.{at_target, new_before, part_all, part_none, part_run, part_then, taken_here}
use Rattle.rtl_levels.proofs.Whole.{run_differs}

abbrev pub no_span : Span
no_span = record { first = 0; len = 0 }

module _ (readers : Grouping) (targets : List ℕ) (entries : List (Option ℕ)) where
  pub some_none : (from : ℕ) (a : State) → StateTakesPart readers targets entries from from a a
  some_none from a = record { part = part_none targets entries a.values.items; taken = λ q l k. absurd (omega (arith, l, k)); advances = advances_none readers (IsNew targets entries a.values.items) a }

  pub some_then : (from middle end : ℕ) (a b c : State) → StateTakesPart readers targets entries from middle a b → StateTakesPart readers targets entries middle end b c → StateTakesPart readers targets entries from end a c
  some_then from middle end a b c S T = record {
    part = part_then targets entries a.values.items b.values.items c.values.items S.part T.part;
    taken = λ q low high. by q low high (cases_lt q middle);
    advances = advances_then readers (IsNew targets entries a.values.items) a b c S.advances
        (advances_wider readers (IsNew targets entries b.values.items) (IsNew targets entries a.values.items) (new_before targets entries a.values.items b.values.items S.part) b c T.advances);
  }
    where
      by : (q : ℕ) → from ≤ q → q < end → (q < middle) ⊎ (middle ≤ q) → IsTaken entries (at_targets targets c.values.items) q
      by q low high (inl l) = T.part.stay q (S.taken q low l)
      by q low high (inr le) = T.taken q le high

  -- those of places whose nets stand one behind the other
  pub some_run : AreDifferent targets → (first net : ℕ) (given : List ℕ) → first + length given ≤ length targets → ((k : ℕ) → k < length given → get_or targets (first + k) 0 ≡ net + k)
      → ((k : ℕ) → k < length given → get_or entries (first + k) None ≡ Some (get_or given k 0)) → (a b : State) → GetValues readers net given a b
      → StateTakesPart readers targets entries first (first + length given) a b
  some_run differ first net given within is are a b G = record {
    part = part;
    taken = taken_more entries (at_targets targets a.values.items) (at_targets targets b.values.items) first first given are
        (taken_here targets entries differ a.values.items b.values.items first net given within is are G.written) part.stay (λ q l k. absurd (omega (arith, l, k)));
    advances = advances_wider readers (GetsOther net given a.values.items) (IsNew targets entries a.values.items) of_run a b G.advances;
  }
    where
      part : TakesPart targets entries a.values.items b.values.items
      part = part_run targets entries differ a.values.items b.values.items first net given within is are G.written

      of_run : (n : ℕ) → GetsOther net given a.values.items n → IsNew targets entries a.values.items n
      of_run n r =
          let l = r.within in
          let there : first + r.at < length targets = omega (arith, l, within) in
          let at = is r.at l ∙ sym r.is in
          record {
            place = first + r.at;
            there = there;
            is = at;
            new = λ taken. r.other (ap (λ (m : ℕ). get_or a.values.items m 0) (sym at) ∙ sym (at_target targets entries a.values.items (first + r.at) there) ∙ taken (get_or given r.at 0) (are r.at l));
          }

  -- those of the spans before the index
  pub record IsTaking (spans : List Span) (index : ℕ) (a b : State) : Type 0 where
    pub part : TakesPart targets entries a.values.items b.values.items
    pub left : (q : ℕ) → IsTaken entries (at_targets targets b.values.items) q ⊎ Contains (places_of (drop index spans)) q
    pub advances : Advances readers (IsNew targets entries a.values.items) a b

  module _ (spans : List Span) where
    pub taking_none : AreAssigned entries (places_of spans) → (a : State) → IsTaking spans 0 a a
    taking_none A a = record {
      part = part_none targets entries a.values.items;
      left = left_all entries (at_targets targets a.values.items) spans A;
      advances = advances_none readers (IsNew targets entries a.values.items) a;
    }

    pub taking_more : (i : ℕ) (d : Span) → i < length spans → (a b c : State) → IsTaking spans i a b
        → StateTakesPart readers targets entries (get_or spans i d).first ((get_or spans i d).first + (get_or spans i d).len) b c → IsTaking spans (i + 1) a c
    taking_more i d l a b c I S = record {
      part = part_then targets entries a.values.items b.values.items c.values.items I.part S.part;
      left = left_one entries (at_targets targets b.values.items) (at_targets targets c.values.items) spans i d l S.part.stay
          (λ k m. S.taken ((get_or spans i d).first + k) (omega arith) (omega (arith, m))) I.left;
      advances = advances_then readers (IsNew targets entries a.values.items) a b c I.advances
          (advances_wider readers (IsNew targets entries b.values.items) (IsNew targets entries a.values.items) (new_before targets entries a.values.items b.values.items I.part) b c S.advances);
    }

    pub taking_all : (i : ℕ) → length spans ≤ i → (a b : State) → IsTaking spans i a b → StateTakesOver readers targets entries a b
    taking_all i done a b I = record {
      taken = part_all targets entries a.values.items b.values.items I.part (none_left entries (at_targets targets b.values.items) spans i done I.left);
      advances = I.advances;
    }

-- a span of a process whose drivers are one cut
module _ (readers : Grouping) (base : ℕ) (entries : List (Option ℕ)) (spans : List Span) (within : LieWithin (length entries) spans) (i : ℕ) (d : Span) (l : i < length spans)
    (assigned : List ℕ) (as_many : length assigned ≡ (get_or spans i d).len) where
  abbrev first : ℕ
  first = (get_or spans i d).first

  pub span_together : (s : State) → StandTogether readers base (length entries) s → StandTogether readers (base + first) (length assigned) s
  span_together s T = record {
    have_readers = T.have_readers;
    there = omega (arith, within i d l, as_many, T.there);
    together = λ k m. ap (λ (n : ℕ). get_or readers.of_net n 0) (at k) ∙ T.together (first + k) (omega (arith, within i d l, m, as_many)) ∙ sym (T.together first (omega (arith, within i d l, m, as_many)));
  }
    where
      at : (k : ℕ) → base + first + k ≡ base + (first + k)
      at k = omega arith

  pub span_taken : AreAssigned entries (places_of spans)
      → ((k : ℕ) → k < (get_or spans i d).len → IsSome (get_or entries (first + k) None) → get_or entries (first + k) None ≡ Some (get_or assigned k 0))
      → (a b : State) → GetValues readers (base + first) assigned a b → StateTakesPart readers (range_with_len base (length entries)) entries first (first + (get_or spans i d).len) a b
  span_taken A has a b G =
      subst (λ (n : ℕ). StateTakesPart readers (range_with_len base (length entries)) entries first (first + n) a b) as_many
      (some_run readers (range_with_len base (length entries)) entries (run_differs base (length entries)) first (base + first) assigned short is are a b G)
    where
      short : first + length assigned ≤ length (range_with_len base (length entries))
      short = omega (arith, within i d l, as_many, length-range_with_len base (length entries))

      is : (k : ℕ) → k < length assigned → get_or (range_with_len base (length entries)) (first + k) 0 ≡ base + first + k
      is k m =
          let e : base + (first + k) ≡ base + first + k = omega arith in
          get_or-range_with_len base (length entries) (first + k) 0 (omega (arith, m, short, length-range_with_len base (length entries))) ∙ e

      are : (k : ℕ) → k < length assigned → get_or entries (first + k) None ≡ Some (get_or assigned k 0)
      are k m = let n : k < (get_or spans i d).len = omega (arith, m, as_many) in has k n (place_assigned entries spans A i k d l n)
