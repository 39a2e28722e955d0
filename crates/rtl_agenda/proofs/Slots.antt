-- What waits in slots, by the changes of each time.
use Rattle.std.proofs.Common.{◌≡◌, ◌≢◌, ◌⊎◌, ℕ, zero, suc, ◌<◌, ◌≤◌, Bool, true, false, cond, List, [], ◌∷◌, ◌++◌, length, set, refl, sym, ap, subst, ◌∙◌, arith, inl, inr}
use Rattle.std.specs.Prelude.{unwrap_or}
use Rattle.std.specs.List.{AllByRecursion}
use Rattle.std.specs.Ordering.{nat_cmp}
use Rattle.std.specs.Map.{keys_of}
use Rattle.std.specs.BTreeMap.{is_at, insert_entry}
use Rattle.std.proofs.lemmas.Bool.{cases_eq, cases_lt}
use Rattle.std.proofs.lemmas.List.{get_or-set_same, get_or-set_other, get_or_past}
use Rattle.rtl_agenda.specs.Agenda.{Change, changes_at}
use Rattle.rtl_agenda.specs.Wheel.{IsFilled, is_filled, slot_at, waiting_in}
use Rattle.rtl_agenda.proofs.Pushing.{same_time, other_time, lookup-insert_entry, lookup-insert_entry_apart}
use Rattle.rtl_agenda.proofs.InOrder.{Rises, keys_insert, in_order_insert}

pub some_filled : (cs : List Change) → is_filled cs ≡ true → 0 < length cs
some_filled [] filled = absurd (cc)
some_filled (c ∷ cs) filled = omega arith

pub filled_some : (cs : List Change) → 0 < length cs → is_filled cs ≡ true
filled_some [] some = absurd (omega arith)
filled_some (c ∷ cs) some = refl

pub filled_push : (cs : List Change) (c : Change) → is_filled (cs ++ c ∷ []) ≡ true
filled_push [] c = refl
filled_push (d ∷ ds) c = refl

-- only slots that are there have changes
pub filled_within : (slots : List (ℕ × List Change)) (s : ℕ) → IsFilled slots s → s < length slots
filled_within slots s filled = by (cases_lt s (length slots))
  where
    by : (s < length slots) ⊎ (length slots ≤ s) → s < length slots
    by (inl inside) = inside
    by (inr past) =
        let none : is_filled (slot_at slots s).1 ≡ false = ap (λ (e : ℕ × List Change). is_filled e.1) (get_or_past slots s (0, []) past) in
        absurd (cc)

-- what holds of the times of all slots, once one has been written
pub times_set : (P : ℕ → Type 0) (slots : List (ℕ × List Change)) (s : ℕ) (e : ℕ × List Change) → s < length slots → ((k : ℕ) → IsFilled slots k → P (slot_at slots k).0) → (is_filled e.1 ≡ true → P e.0)
    → (k : ℕ) → IsFilled (set slots s e) k → P (slot_at (set slots s e) k).0
times_set P slots s e within all here k = by (cases_eq k s)
  where
    by : (k ≡ s) ⊎ (k ≡ s → ⊥) → is_filled (slot_at (set slots s e) k).1 ≡ true → P (slot_at (set slots s e) k).0
    by (inl is) =
        let R : ℕ × List Change → Type 0 = λ x. is_filled x.1 ≡ true → P x.0 in
        subst R (sym (ap (λ i. slot_at (set slots s e) i) is ∙ get_or-set_same slots s e (0, []) within)) here
    by (inr apart) =
        let R : ℕ × List Change → Type 0 = λ x. is_filled x.1 ≡ true → P x.0 in
        subst R (sym (get_or-set_other slots s k e (0, []) apart)) (all k)

-- the changes of a time, with those of a slot
abbrev pub at_slot : ℕ → ℕ × List Change → List Change → List Change
at_slot q e cs = cond (is_filled e.1) (cond (is_at (nat_cmp q) e.0) e.1 cs) cs

pub at_slot-none : (q : ℕ) (e : ℕ × List Change) (cs : List Change) → (is_filled e.1 ≡ true → q ≢ e.0) → at_slot q e cs ≡ cs
at_slot-none q e cs apart = by (is_filled e.1) refl
  where
    by : (b : Bool) → is_filled e.1 ≡ b → cond b (cond (is_at (nat_cmp q) e.0) e.1 cs) cs ≡ cs
    by true is = ap (λ b. cond b e.1 cs) (other_time q e.0 (apart is))
    by false is = refl

pub at_slot-here : (t : ℕ) (ds cs : List Change) → is_filled ds ≡ true → at_slot t (t, ds) cs ≡ ds
at_slot-here t ds cs filled = ap (λ b. cond b (cond (is_at (nat_cmp t) t) ds cs) cs) filled ∙ ap (λ b. cond b ds cs) (same_time t)

-- a slot that has changes of this time alone, where none wait elsewhere
pub at_slot-free : (t u : ℕ) (ds cs : List Change) → (is_filled ds ≡ true → u ≡ t) → cs ≡ [] → at_slot t (u, ds) cs ≡ ds
at_slot-free t u [] cs free none = none
at_slot-free t u (d ∷ ds) cs free none = ap (λ b. cond b (d ∷ ds) cs) (ap (λ k. is_at (nat_cmp t) k) (free refl) ∙ same_time t)

-- the changes of a time, with those of all slots
abbrev pub found : ℕ → List Change → List (ℕ × List Change) → List Change
found q cs [] = cs
found q cs (e ∷ es) = at_slot q e (found q cs es)

pub changes_at_waiting : (far slots : List (ℕ × List Change)) (q : ℕ) → changes_at (waiting_in far slots) q ≡ found q (changes_at far q) slots
changes_at_waiting far [] q = refl
changes_at_waiting far (e ∷ es) q = by (is_filled e.1) ∙ ap (λ cs. at_slot q e cs) (changes_at_waiting far es q)
  where
    inserted : (q ≡ e.0) ⊎ (q ≡ e.0 → ⊥) → changes_at (insert_entry nat_cmp (waiting_in far es) e.0 e.1) q ≡ cond (is_at (nat_cmp q) e.0) e.1 (changes_at (waiting_in far es) q)
    inserted (inl is) =
        let P : ℕ → Type 0 = λ k. changes_at (insert_entry nat_cmp (waiting_in far es) e.0 e.1) k ≡ cond (is_at (nat_cmp k) e.0) e.1 (changes_at (waiting_in far es) k) in
        subst P (sym is)
        (ap (λ o. unwrap_or o []) (lookup-insert_entry (waiting_in far es) e.0 e.1) ∙ sym (ap (λ b. cond b e.1 (changes_at (waiting_in far es) e.0)) (same_time e.0)))
    inserted (inr apart) =
        ap (λ o. unwrap_or o []) (lookup-insert_entry_apart (waiting_in far es) e.0 q e.1 apart)
        ∙ sym (ap (λ b. cond b e.1 (changes_at (waiting_in far es) q)) (other_time q e.0 apart))

    by : (b : Bool) → changes_at (cond b (insert_entry nat_cmp (waiting_in far es) e.0 e.1) (waiting_in far es)) q
        ≡ cond b (cond (is_at (nat_cmp q) e.0) e.1 (changes_at (waiting_in far es) q)) (changes_at (waiting_in far es) q)
    by true = inserted (cases_eq q e.0)
    by false = refl

pub found_none : (q : ℕ) (cs : List Change) (slots : List (ℕ × List Change)) → ((s : ℕ) → IsFilled slots s → q ≢ (slot_at slots s).0) → found q cs slots ≡ cs
found_none q cs [] none = refl
found_none q cs (e ∷ es) none = at_slot-none q e (found q cs es) (none 0) ∙ found_none q cs es (λ s. none (suc s))

-- where one slot alone may have changes of the time
pub found_only : (q : ℕ) (cs : List Change) (slots : List (ℕ × List Change)) (k : ℕ) → ((s : ℕ) → s ≢ k → IsFilled slots s → q ≢ (slot_at slots s).0) → found q cs slots ≡ at_slot q (slot_at slots k) cs
found_only q cs [] k others = refl
found_only q cs (e ∷ es) zero others = ap (λ ds. at_slot q e ds) (found_none q cs es (λ s. others (suc s) (omega arith)))
found_only q cs (e ∷ es) (suc k) others =
    at_slot-none q e (found q cs es) (others 0 (omega arith)) ∙ found_only q cs es k (λ s apart. others (suc s) (omega arith))

-- a slot that is written between changes of other times
pub found_set : (q : ℕ) (cs : List Change) (slots : List (ℕ × List Change)) (s : ℕ) (e : ℕ × List Change) → (IsFilled slots s → q ≢ (slot_at slots s).0) → (is_filled e.1 ≡ true → q ≢ e.0)
    → found q cs (set slots s e) ≡ found q cs slots
found_set q cs [] s e was now = refl
found_set q cs (x ∷ xs) zero e was now = at_slot-none q e (found q cs xs) now ∙ sym (at_slot-none q x (found q cs xs) was)
found_set q cs (x ∷ xs) (suc s) e was now = ap (λ ds. at_slot q x ds) (found_set q cs xs s e was now)

-- nothing waits in slots that have no changes
pub waiting_none : (far slots : List (ℕ × List Change)) → ((s : ℕ) → is_filled (slot_at slots s).1 ≡ false) → waiting_in far slots ≡ far
waiting_none far [] none = refl
waiting_none far (e ∷ es) none =
    ap (λ b. cond b (insert_entry nat_cmp (waiting_in far es) e.0 e.1) (waiting_in far es)) (none 0) ∙ waiting_none far es (λ s. none (suc s))

pub in_order_waiting : (far slots : List (ℕ × List Change)) → Rises far → Rises (waiting_in far slots)
in_order_waiting far [] in_order = in_order
in_order_waiting far (e ∷ es) in_order = by (is_filled e.1) refl (in_order_waiting far es in_order)
  where
    by : (b : Bool) → is_filled e.1 ≡ b → Rises (waiting_in far es) → Rises (cond b (insert_entry nat_cmp (waiting_in far es) e.0 e.1) (waiting_in far es))
    by true is rest = in_order_insert (waiting_in far es) e.0 e.1 rest (some_filled e.1 is)
    by false is rest = rest

-- all that waits is later than a time
pub later_waiting : (t : ℕ) (far slots : List (ℕ × List Change)) → AllByRecursion (λ q. t < q) (keys_of far) → ((s : ℕ) → IsFilled slots s → t < (slot_at slots s).0)
    → AllByRecursion (λ q. t < q) (keys_of (waiting_in far slots))
later_waiting t far [] later near = later
later_waiting t far (e ∷ es) later near = by (is_filled e.1) refl (later_waiting t far es later (λ s. near (suc s)))
  where
    by : (b : Bool) → is_filled e.1 ≡ b → AllByRecursion (λ q. t < q) (keys_of (waiting_in far es))
        → AllByRecursion (λ q. t < q) (keys_of (cond b (insert_entry nat_cmp (waiting_in far es) e.0 e.1) (waiting_in far es)))
    by true is rest = keys_insert (λ q. t < q) (waiting_in far es) e.0 e.1 rest (near 0 is)
    by false is rest = rest
