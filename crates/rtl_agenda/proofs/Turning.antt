-- What waits once a slot has been written.
use Rattle.std.proofs.Common.{◌≡◌, ◌≢◌, ◌⊎◌, ℕ, ◌<◌, ◌≤◌, ◌%◌, true, false, List, [], ◌∷◌, ◌++◌, length, set, sym, ap, subst, ◌∙◌, arith, inl, inr}
use Rattle.std.specs.List.{AllByRecursion}
use Rattle.std.specs.Map.{keys_of}
use Rattle.std.proofs.lemmas.Bool.{cases_eq}
use Rattle.std.proofs.lemmas.List.{get_or-set_same, get_or-set_other}
use Rattle.std.proofs.lemmas.Nat.{mod_below}
use Rattle.rtl_agenda.specs.Agenda.{Change, changes_at, with_change}
use Rattle.rtl_agenda.specs.Wheel.{IsFilled, IsRing, is_filled, slot_at, waiting_in}
use Rattle.rtl_agenda.proofs.Pushing.{each_push_is_last}
use Rattle.rtl_agenda.proofs.InOrder.{Rises, at_head, past_head, same_waiting, in_order_cons, in_order_head, in_order_with}
use Rattle.rtl_agenda.proofs.Slots.{at_slot, at_slot-here, at_slot-free, changes_at_waiting, filled_push, filled_some, filled_within, found, found_none, found_only, found_set, in_order_waiting, later_waiting, some_filled}

module _ (slots : List (ℕ × List Change)) (words : List ℕ) (ring : IsRing slots words) where
  -- a time has changes in its slot alone
  elsewhere : (t k : ℕ) → k ≢ t % length slots → IsFilled slots k → t ≢ (slot_at slots k).0
  elsewhere t k apart filled same = apart (sym (ring.placed k filled) ∙ ap (λ q. q % length slots) (sym same))

  found_written : (t : ℕ) (cs : List Change) (e : ℕ × List Change) → found t cs (set slots (t % length slots) e) ≡ at_slot t e cs
  found_written t cs e =
      found_only t cs (set slots (t % length slots) e) (t % length slots) others
      ∙ ap (λ (x : ℕ × List Change). at_slot t x cs) (get_or-set_same slots (t % length slots) e (0, []) (mod_below t (length slots) ring.some))
    where
      others : (k : ℕ) → k ≢ t % length slots → IsFilled (set slots (t % length slots) e) k → t ≢ (slot_at (set slots (t % length slots) e) k).0
      others k apart =
          let Q : ℕ × List Change → Type 0 = λ x. is_filled x.1 ≡ true → t ≢ x.0 in
          subst Q (sym (get_or-set_other slots (t % length slots) k e (0, []) apart)) (elsewhere t k apart)

  module _ (far : List (ℕ × List Change)) (in_order : Rises far) where
    -- a change more in its slot
    pub waiting_near : (t : ℕ) (c : Change) → (IsFilled slots (t % length slots) → (slot_at slots (t % length slots)).0 ≡ t) → changes_at far t ≡ []
        → waiting_in far (set slots (t % length slots) (t, (slot_at slots (t % length slots)).1 ++ c ∷ [])) ≡ with_change (waiting_in far slots) t c
    waiting_near t c free none =
        same_waiting _ _ (in_order_waiting far (set slots (t % length slots) (t, (slot_at slots (t % length slots)).1 ++ c ∷ [])) in_order) (in_order_with (waiting_in far slots) t c (in_order_waiting far slots in_order))
        (λ q. changes_at_waiting far (set slots (t % length slots) (t, (slot_at slots (t % length slots)).1 ++ c ∷ [])) q ∙ by q (cases_eq q t))
      where
        was : changes_at (waiting_in far slots) t ≡ (slot_at slots (t % length slots)).1
        was =
            changes_at_waiting far slots t ∙ found_only t (changes_at far t) slots (t % length slots) (elsewhere t)
            ∙ at_slot-free t (slot_at slots (t % length slots)).0 (slot_at slots (t % length slots)).1 (changes_at far t) free none

        by : (q : ℕ) → (q ≡ t) ⊎ (q ≡ t → ⊥) → found q (changes_at far q) (set slots (t % length slots) (t, (slot_at slots (t % length slots)).1 ++ c ∷ [])) ≡ changes_at (with_change (waiting_in far slots) t c) q
        by q (inl is) =
            let P : ℕ → Type 0 = λ k. found k (changes_at far k) (set slots (t % length slots) (t, (slot_at slots (t % length slots)).1 ++ c ∷ [])) ≡ changes_at (with_change (waiting_in far slots) t c) k in
            subst P (sym is)
            (found_written t (changes_at far t) (t, (slot_at slots (t % length slots)).1 ++ c ∷ [])
            ∙ at_slot-here t ((slot_at slots (t % length slots)).1 ++ c ∷ []) (changes_at far t) (filled_push (slot_at slots (t % length slots)).1 c)
            ∙ ap (λ cs. cs ++ c ∷ []) (sym was) ∙ sym (each_push_is_last (waiting_in far slots) t c).0)
        by q (inr apart) =
            found_set q (changes_at far q) slots (t % length slots) (t, (slot_at slots (t % length slots)).1 ++ c ∷ []) (λ filled same. apart (same ∙ free filled)) (λ filled same. apart same)
            ∙ sym (changes_at_waiting far slots q) ∙ sym ((each_push_is_last (waiting_in far slots) t c).1 q apart)

    -- a change more far ahead
    pub waiting_far : (t : ℕ) (c : Change) → ((s : ℕ) → IsFilled slots s → t ≢ (slot_at slots s).0) → waiting_in (with_change far t c) slots ≡ with_change (waiting_in far slots) t c
    waiting_far t c none =
        same_waiting _ _ (in_order_waiting (with_change far t c) slots (in_order_with far t c in_order)) (in_order_with (waiting_in far slots) t c (in_order_waiting far slots in_order))
        (λ q. changes_at_waiting (with_change far t c) slots q ∙ by q (cases_eq q t))
      where
        by : (q : ℕ) → (q ≡ t) ⊎ (q ≡ t → ⊥) → found q (changes_at (with_change far t c) q) slots ≡ changes_at (with_change (waiting_in far slots) t c) q
        by q (inl is) =
            let P : ℕ → Type 0 = λ k. found k (changes_at (with_change far t c) k) slots ≡ changes_at (with_change (waiting_in far slots) t c) k in
            subst P (sym is)
            (found_none t (changes_at (with_change far t c) t) slots none ∙ (each_push_is_last far t c).0
            ∙ ap (λ cs. cs ++ c ∷ []) (sym (changes_at_waiting far slots t ∙ found_none t (changes_at far t) slots none)) ∙ sym (each_push_is_last (waiting_in far slots) t c).0)
        by q (inr apart) =
            ap (λ cs. found q cs slots) ((each_push_is_last far t c).1 q apart) ∙ sym (changes_at_waiting far slots q)
            ∙ sym ((each_push_is_last (waiting_in far slots) t c).1 q apart)

    -- the changes of a slot that has the least time are taken
    pub waiting_taken : (s : ℕ) → IsFilled slots s → ((k : ℕ) → IsFilled slots k → (slot_at slots s).0 ≤ (slot_at slots k).0) → AllByRecursion (λ t. (slot_at slots s).0 < t) (keys_of far)
        → waiting_in far slots ≡ slot_at slots s ∷ waiting_in far (set slots s ((slot_at slots s).0, []))
    waiting_taken s filled least above =
        same_waiting (waiting_in far slots) (slot_at slots s ∷ waiting_in far (set slots s ((slot_at slots s).0, []))) (in_order_waiting far slots in_order)
        (in_order_cons (slot_at slots s) (waiting_in far (set slots s ((slot_at slots s).0, []))) (some_filled (slot_at slots s).1 filled)
        (later_waiting (slot_at slots s).0 far (set slots s ((slot_at slots s).0, [])) above later) (in_order_waiting far (set slots s ((slot_at slots s).0, [])) in_order))
        (λ q. changes_at_waiting far slots q ∙ by q (cases_eq q (slot_at slots s).0))
      where
        apart_from : (k : ℕ) → k ≢ s → IsFilled slots k → (slot_at slots s).0 ≢ (slot_at slots k).0
        apart_from k apart there same = apart (sym (ring.placed k there) ∙ ap (λ q. q % length slots) (sym same) ∙ ring.placed s filled)

        later : (k : ℕ) → IsFilled (set slots s ((slot_at slots s).0, [])) k → (slot_at slots s).0 < (slot_at (set slots s ((slot_at slots s).0, [])) k).0
        later k = at (cases_eq k s)
          where
            at : (k ≡ s) ⊎ (k ≡ s → ⊥) → IsFilled (set slots s ((slot_at slots s).0, [])) k → (slot_at slots s).0 < (slot_at (set slots s ((slot_at slots s).0, [])) k).0
            at (inl is) =
                let Q : ℕ × List Change → Type 0 = λ x. is_filled x.1 ≡ true → (slot_at slots s).0 < x.0 in
                subst Q (sym (ap (λ i. slot_at (set slots s ((slot_at slots s).0, [])) i) is ∙ get_or-set_same slots s ((slot_at slots s).0, []) (0, []) (filled_within slots s filled))) (λ none. absurd (cc))
            at (inr apart) =
                let Q : ℕ × List Change → Type 0 = λ x. is_filled x.1 ≡ true → (slot_at slots s).0 < x.0 in
                subst Q (sym (get_or-set_other slots s k ((slot_at slots s).0, []) (0, []) apart)) (λ there. omega (arith, least k there, apart_from k apart there))

        by : (q : ℕ) → (q ≡ (slot_at slots s).0) ⊎ (q ≡ (slot_at slots s).0 → ⊥) → found q (changes_at far q) slots ≡ changes_at (slot_at slots s ∷ waiting_in far (set slots s ((slot_at slots s).0, []))) q
        by q (inl is) =
            let P : ℕ → Type 0 = λ k. found k (changes_at far k) slots ≡ changes_at (slot_at slots s ∷ waiting_in far (set slots s ((slot_at slots s).0, []))) k in
            subst P (sym is)
            (found_only (slot_at slots s).0 (changes_at far (slot_at slots s).0) slots s apart_from
            ∙ at_slot-here (slot_at slots s).0 (slot_at slots s).1 (changes_at far (slot_at slots s).0) filled
            ∙ sym (at_head (slot_at slots s) (waiting_in far (set slots s ((slot_at slots s).0, [])))))
        by q (inr apart) =
            sym (found_set q (changes_at far q) slots s ((slot_at slots s).0, []) (λ there same. apart same) (λ none. absurd (cc)))
            ∙ sym (changes_at_waiting far (set slots s ((slot_at slots s).0, [])) q) ∙ sym (past_head (slot_at slots s) (waiting_in far (set slots s ((slot_at slots s).0, []))) q apart)

  -- the first of the far times is drawn into its slot
  pub waiting_drawn : (t : ℕ) (ds : List Change) (far : List (ℕ × List Change)) → Rises ((t, ds) ∷ far) → is_filled (slot_at slots (t % length slots)).1 ≡ false
      → waiting_in far (set slots (t % length slots) (t, ds)) ≡ waiting_in ((t, ds) ∷ far) slots
  waiting_drawn t ds far in_order free =
      same_waiting _ _ (in_order_waiting far (set slots (t % length slots) (t, ds)) (in_order_head (t, ds) far in_order).2) (in_order_waiting ((t, ds) ∷ far) slots in_order)
      (λ q. changes_at_waiting far (set slots (t % length slots) (t, ds)) q ∙ by q (cases_eq q t) ∙ sym (changes_at_waiting ((t, ds) ∷ far) slots q))
    where
      none : (k : ℕ) → IsFilled slots k → t ≢ (slot_at slots k).0
      none k = at (cases_eq k (t % length slots))
        where
          at : (k ≡ t % length slots) ⊎ (k ≡ t % length slots → ⊥) → IsFilled slots k → t ≢ (slot_at slots k).0
          at (inl is) filled =
              let empty : is_filled (slot_at slots k).1 ≡ false = ap (λ i. is_filled (slot_at slots i).1) is ∙ free in
              absurd (cc)
          at (inr apart) filled = elsewhere t k apart filled

      by : (q : ℕ) → (q ≡ t) ⊎ (q ≡ t → ⊥) → found q (changes_at far q) (set slots (t % length slots) (t, ds)) ≡ found q (changes_at ((t, ds) ∷ far) q) slots
      by q (inl is) =
          let P : ℕ → Type 0 = λ k. found k (changes_at far k) (set slots (t % length slots) (t, ds)) ≡ found k (changes_at ((t, ds) ∷ far) k) slots in
          subst P (sym is)
          (found_written t (changes_at far t) (t, ds) ∙ at_slot-here t ds (changes_at far t) (filled_some ds (in_order_head (t, ds) far in_order).0)
          ∙ sym (found_none t (changes_at ((t, ds) ∷ far) t) slots none ∙ at_head (t, ds) far))
      by q (inr apart) =
          found_set q (changes_at far q) slots (t % length slots) (t, ds) (λ filled. absurd (cc)) (λ filled same. apart same)
          ∙ ap (λ cs. found q cs slots) (sym (past_head (t, ds) far q apart))
