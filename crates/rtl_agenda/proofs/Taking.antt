-- What waits on a wheel once a time is taken or drawn near, or a change is pushed.
use Rattle.std.proofs.Common.{◌≡◌, ℕ, ◌-◌, ◌%◌, ◌<◌, ◌≤◌, true, false, List, [], ◌∷◌, ◌++◌, length, get_or, set, Option, Result, sym, ap, subst, ◌∙◌, arith}
use Rattle.std.specs.Prelude.{OnErr, OnOk, unwrap_or}
use Rattle.std.specs.Map.{keys_of}
use Rattle.rtl_agenda.specs.Agenda.{Change, IsAfter, IsOrderly, LeavesAlone, changes_at, with_change}
use Rattle.rtl_agenda.specs.MapState.{IsInOrder}
use Rattle.rtl_agenda.specs.Wheel.{IsAhead, IsFilled, IsParted, IsRing, entries_of, is_filled, slot_at, turned_to, waiting_in}
use Rattle.rtl_agenda.specs.declared.slot.Slot.{Slot}
use Rattle.rtl_agenda.proofs.InOrder.{Rises, in_order_head, in_order_rest, keys_weaker, rises_from}
use Rattle.rtl_agenda.proofs.Ordering.{of_either, on_err, on_ok, orderly_pushed}
use Rattle.rtl_agenda.proofs.Ringing.{ahead_drawn, ahead_far, ahead_taken, entry_read, far_ahead, free_slot, parted_far, parted_near, pushed_far, pushed_near}
use Rattle.rtl_agenda.proofs.Slots.{filled_some, waiting_none}
use Rattle.rtl_agenda.proofs.Turning.{waiting_drawn, waiting_taken}

-- ---- the least time is taken

module _ (items : List Slot) (words : List ℕ) (far : List (ℕ × List Change)) (from s : ℕ) (old : Slot) (new : List (ℕ × List Change)) (taken : List Change) (ring : IsRing (entries_of items) words)
    (parted : IsParted far (entries_of items) from) (within : s < length items) (read : old ≡ get_or items s old) (filled : IsFilled (entries_of items) s)
    (least : (k : ℕ) → IsFilled (entries_of items) k → (slot_at (entries_of items) s).0 ≤ (slot_at (entries_of items) k).0) (written : new ≡ set (entries_of items) s ((slot_at (entries_of items) s).0, [])) where
  pub near_taken : IsInOrder far → taken ≡ (slot_at (entries_of items) s).1 → waiting_in far (entries_of items) ≡ (old.time, taken) ∷ waiting_in far new
  near_taken in_order these =
      let entry = entry_read items s old within read in
      let later = keys_weaker (λ u. length (entries_of items) ≤ u - from) (λ u. (slot_at (entries_of items) s).0 < u) (λ u more. omega (arith, (parted.near s filled).1, more)) (keys_of far) (far_ahead far (entries_of items) from parted) in
      waiting_taken (entries_of items) words ring far (rises_from far in_order) s filled least later
      ∙ ap (λ (e : ℕ × List Change). e ∷ waiting_in far (set (entries_of items) s ((slot_at (entries_of items) s).0, []))) entry
      ∙ ap (λ (cs : List Change). (old.time, cs) ∷ waiting_in far (set (entries_of items) s ((slot_at (entries_of items) s).0, []))) (sym (these ∙ ap (λ (e : ℕ × List Change). e.1) entry))
      ∙ ap (λ (es : List (ℕ × List Change)). (old.time, taken) ∷ waiting_in far es) (sym written)

  pub near_ahead : IsAhead far new old.time
  near_ahead =
      let entry = entry_read items s old within read in
      let P : List (ℕ × List Change) → Type 0 = λ es. IsAhead far es old.time in
      let Q : ℕ → Type 0 = λ t. IsAhead far (set (entries_of items) s ((slot_at (entries_of items) s).0, [])) t in
      subst P (sym written) (subst Q (ap (λ (e : ℕ × List Change). e.0) entry) (ahead_taken far (entries_of items) from s parted filled least))

module _ (far rest slots : List (ℕ × List Change)) (time : ℕ) (taken : List Change) (none : (s : ℕ) → is_filled (slot_at slots s).1 ≡ false) (first : far ≡ (time, taken) ∷ rest) where
  pub far_taken : waiting_in far slots ≡ (time, taken) ∷ waiting_in rest slots
  far_taken = waiting_none far slots none ∙ first ∙ ap (λ (w : List (ℕ × List Change)). (time, taken) ∷ w) (sym (waiting_none rest slots none))

  pub far_taken_ahead : IsInOrder far → IsAhead rest slots time
  far_taken_ahead in_order = ahead_far (time, taken) rest slots (in_order_rest (time, taken) far rest first in_order) none

-- ---- a time is drawn near

pub first_filled : (far rest : List (ℕ × List Change)) (time : ℕ) (changes : List Change) → far ≡ (time, changes) ∷ rest → IsInOrder far → is_filled changes ≡ true
first_filled far rest time changes first in_order = filled_some changes (in_order_head (time, changes) rest (in_order_rest (time, changes) far rest first in_order)).0

module _ (far rest slots new : List (ℕ × List Change)) (words : List ℕ) (from time : ℕ) (changes : List Change) (ring : IsRing slots words) (in_order : IsInOrder far) (ahead : IsAhead far slots from)
    (first : far ≡ (time, changes) ∷ rest) (near : time - from < length slots) (written : new ≡ set slots (time % length slots) (time, changes)) where
  before : IsAhead ((time, changes) ∷ rest) slots from
  before = let P : List (ℕ × List Change) → Type 0 = λ w. IsAhead w slots from in subst P first ahead

  rises : Rises ((time, changes) ∷ rest)
  rises = in_order_rest (time, changes) far rest first in_order

  pub drawn_waiting : waiting_in rest new ≡ waiting_in far slots
  drawn_waiting =
      ap (λ (es : List (ℕ × List Change)). waiting_in rest es) written
      ∙ waiting_drawn slots words ring time changes rest rises (free_slot rest slots words from time changes ring before near)
      ∙ ap (λ (w : List (ℕ × List Change)). waiting_in w slots) (sym first)

  pub drawn_ahead : IsAhead rest new from
  drawn_ahead =
      let P : List (ℕ × List Change) → Type 0 = λ es. IsAhead rest es from in
      subst P (sym written) (ahead_drawn rest slots words from time changes ring before near rises)

-- ---- a change is pushed, or refused

module _ {T E : Type 0} (far slots : List (ℕ × List Change)) (words : List ℕ) (last : Option ℕ) (taken : List Change) (time : ℕ) (change : Change) (r : Result T E) (ring : IsRing slots words) (in_order : IsInOrder far)
    (parted : IsParted far slots (unwrap_or last 0)) where
  module _ (new : List (ℕ × List Change)) (le : unwrap_or last 0 ≤ time) (near : time - unwrap_or last 0 < length slots)
      (ok : OnOk r (new ≡ set slots (time % length slots) (time, (slot_at slots (time % length slots)).1 ++ change ∷ []))) where
    pub near_pushed : OnOk r (waiting_in far new ≡ with_change (waiting_in far slots) time change)
    near_pushed =
        on_ok r (λ is. ap (λ (es : List (ℕ × List Change)). waiting_in far es) is ∙ pushed_near far slots (unwrap_or last 0) time change words (rises_from far in_order) ring parted le near) ok

    module _ (refused : OnErr r (new ≡ slots)) where
      pub near_refused : OnErr r (waiting_in far new ≡ waiting_in far slots)
      near_refused = on_err r (λ is. ap (λ (es : List (ℕ × List Change)). waiting_in far es) is) refused

      pub near_parted : IsParted far new (unwrap_or last 0)
      near_parted =
          of_either (λ (es : List (ℕ × List Change)). IsParted far es (unwrap_or last 0)) r new _ slots ok refused
          (parted_near far slots (unwrap_or last 0) time ((slot_at slots (time % length slots)).1 ++ change ∷ []) parted le near) parted

      pub near_orderly : IsOrderly (turned_to far slots last taken) → IsAfter last time → LeavesAlone (changes_at (waiting_in far slots) time) change.0 → IsOrderly (turned_to far new last taken)
      near_orderly orderly later once = orderly_pushed (turned_to far slots last taken) time change (waiting_in far new) r orderly later once near_pushed near_refused

  module _ (new : List (ℕ × List Change)) (more : length slots ≤ time - unwrap_or last 0) (ok : OnOk r (new ≡ with_change far time change)) where
    pub far_pushed : OnOk r (waiting_in new slots ≡ with_change (waiting_in far slots) time change)
    far_pushed =
        on_ok r (λ is. ap (λ (w : List (ℕ × List Change)). waiting_in w slots) is ∙ pushed_far far slots (unwrap_or last 0) time change words (rises_from far in_order) ring parted more) ok

    module _ (refused : OnErr r (new ≡ far)) where
      pub far_refused : OnErr r (waiting_in new slots ≡ waiting_in far slots)
      far_refused = on_err r (λ is. ap (λ (w : List (ℕ × List Change)). waiting_in w slots) is) refused

      pub far_parted : IsParted new slots (unwrap_or last 0)
      far_parted =
          of_either (λ (w : List (ℕ × List Change)). IsParted w slots (unwrap_or last 0)) r new (with_change far time change) far ok refused
          (parted_far far slots (unwrap_or last 0) time change words (rises_from far in_order) ring parted more) parted

      pub far_orderly : IsOrderly (turned_to far slots last taken) → IsAfter last time → LeavesAlone (changes_at (waiting_in far slots) time) change.0 → IsOrderly (turned_to new slots last taken)
      far_orderly orderly later once = orderly_pushed (turned_to far slots last taken) time change (waiting_in new slots) r orderly later once far_pushed far_refused
