-- A map of times, once it has changed.
use Rattle.std.proofs.Common.{◌≡◌, ℕ, List, [], ◌∷◌, ◌++◌, Bool, true, false, Option, Some, None, Result, Ok, Err, sym, ap, subst, ◌∙◌}
use Rattle.std.specs.Prelude.{if◌then◌else◌, IfNone, IfSome, OnOk, OnErr, slice_get}
use Rattle.std.specs.Ordering.{nat_cmp}
use Rattle.std.specs.Map.{lookup, set_value}
use Rattle.std.specs.BTreeMap.{BTreeMap, IsOrdered, is_at, insert_entry}
use Rattle.std.specs.Global.{Vec}
use Rattle.std.proofs.lemmas.Map.Steps.{set_value_same}
use Rattle.rtl_agenda.specs.Agenda.{Change, with_change}
use Rattle.rtl_agenda.specs.MapState.{IsInOrder, waiting_of}
use Rattle.rtl_agenda.proofs.InOrder.{in_order_from, in_order_head, in_order_rest, in_order_with, rises_from}
use Rattle.rtl_agenda.proofs.Waiting.{set_value-insert_entry, waiting_of-insert_entry, waiting_of-with_change}

module _ (m n : BTreeMap ℕ (Vec Change)) (t : ℕ) where
  -- a refused push to a time's changes leaves what waits
  pub waiting_kept : (v w : Vec Change) → IsOrdered nat_cmp m → lookup (is_at (nat_cmp t)) m.entries ≡ Some v
      → n.entries ≡ set_value (is_at (nat_cmp t)) m.entries w → w.items ≡ v.items → waiting_of n.entries ≡ waiting_of m.entries
  waiting_kept v w sorted found is items =
      ap waiting_of (is ∙ set_value-insert_entry m.entries t v w sorted found) ∙ waiting_of-insert_entry m.entries t w
      ∙ ap (λ cs. insert_entry nat_cmp (waiting_of m.entries) t cs) items ∙ sym (waiting_of-insert_entry m.entries t v)
      ∙ ap waiting_of (sym (set_value-insert_entry m.entries t v v sorted found) ∙ set_value_same (is_at (nat_cmp t)) m.entries v found)

  module _ (change : Change) where
    -- a push to a time's changes puts the change last among them
    pub waiting_more : (v w : Vec Change) → IsOrdered nat_cmp m → lookup (is_at (nat_cmp t)) m.entries ≡ Some v
        → n.entries ≡ set_value (is_at (nat_cmp t)) m.entries w → w.items ≡ v.items ++ change ∷ [] → waiting_of n.entries ≡ with_change (waiting_of m.entries) t change
    waiting_more v w sorted found is items =
        ap waiting_of (is ∙ set_value-insert_entry m.entries t v w sorted found) ∙ waiting_of-with_change m.entries t change (Some v) w (sym found) items

    -- a new time has the change alone
    pub waiting_new : (w : Vec Change) → lookup (is_at (nat_cmp t)) m.entries ≡ None
        → n.entries ≡ insert_entry nat_cmp m.entries t w → w.items ≡ [] ++ change ∷ [] → waiting_of n.entries ≡ with_change (waiting_of m.entries) t change
    waiting_new w absent is items = ap waiting_of is ∙ waiting_of-with_change m.entries t change None w (sym absent) items

    module _ (in_order : IsInOrder (waiting_of m.entries)) where
      more : IsInOrder (with_change (waiting_of m.entries) t change)
      more = in_order_from (with_change (waiting_of m.entries) t change) (in_order_with (waiting_of m.entries) t change (rises_from (waiting_of m.entries) in_order))

      -- the times rise, whether a push to a time's changes was refused or not
      pub in_order_written : (v w : Vec Change) (done : Bool) → IsOrdered nat_cmp m → lookup (is_at (nat_cmp t)) m.entries ≡ Some v → n.entries ≡ set_value (is_at (nat_cmp t)) m.entries w
          → w.items ≡ (if done then v.items ++ change ∷ [] else v.items) → IsInOrder (waiting_of n.entries)
      in_order_written v w true sorted found is items = subst IsInOrder (sym (waiting_more v w sorted found is items)) more
      in_order_written v w false sorted found is items = subst IsInOrder (sym (waiting_kept v w sorted found is items)) in_order

      -- the same, whether the new time was refused or not
      pub in_order_inserted : {T E : Type 0} (w : Vec Change) (r : Result T E) → lookup (is_at (nat_cmp t)) m.entries ≡ None → OnOk r (n.entries ≡ insert_entry nat_cmp m.entries t w)
          → OnErr r (n.entries ≡ m.entries) → w.items ≡ [] ++ change ∷ [] → IsInOrder (waiting_of n.entries)
      in_order_inserted w (Ok x) absent is unchanged items = subst IsInOrder (sym (waiting_new w absent is items)) more
      in_order_inserted w (Err e) absent is unchanged items = subst IsInOrder (sym (ap waiting_of unchanged)) in_order

-- the first entry of a map
pub first_entry : (es : List (ℕ × Vec Change)) (t : ℕ) (v : Vec Change) → slice_get es 0 ≡ Some (t, v) → (changes : List Change) × (rest : List (ℕ × List Change)) × (waiting_of es ≡ (t, changes) ∷ rest)
first_entry [] t v is = absurd (cc)
first_entry (e ∷ es) t v is = let same : e ≡ (t, v) = cc in (v.items, waiting_of es, ap (λ (x : ℕ × Vec Change). (x.0, x.1.items) ∷ waiting_of es) same)

-- a map whose first entry may have been taken
pub in_order_popped : (m n : BTreeMap ℕ (Vec Change)) (o : Option (ℕ × Vec Change)) → IsInOrder (waiting_of m.entries) → IfSome o (λ p. m.entries ≡ p ∷ n.entries) → IfNone o (n.entries ≡ m.entries) → IsInOrder (waiting_of n.entries)
in_order_popped m n None in_order removal unchanged = subst IsInOrder (sym (ap waiting_of unchanged)) in_order
in_order_popped m n (Some p) in_order removal unchanged =
    let rest = waiting_of n.entries in
    in_order_from rest (in_order_head (p.0, p.1.items) rest (in_order_rest (p.0, p.1.items) (waiting_of m.entries) rest (ap waiting_of removal) in_order)).2
