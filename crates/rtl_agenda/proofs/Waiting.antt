-- A map's entries with one change more, as what waits.
use Rattle.std.proofs.Common.{◌≡◌, ℕ, List, [], ◌∷◌, ◌++◌, cond, Option, Some, refl, sym, ap, ◌∙◌}
use Rattle.std.specs.Prelude.{unwrap_or}
use Rattle.std.specs.Option.{option_map}
use Rattle.std.specs.Ordering.{nat_cmp, is_eq, match_ordering}
use Rattle.std.specs.declared.cmp.Ordering.{Ordering}
use Rattle.std.specs.declared.cmp.Ordering.TheVariants.{Less, Equal, Greater}
use Rattle.std.specs.Cmp.{nat_cmp_total}
use Rattle.std.specs.List.Sorted.{IsStrictlySortedBy}
use Rattle.std.specs.Map.{lookup, keys_of, set_value}
use Rattle.std.specs.BTreeMap.{is_at, insert_entry}
use Rattle.std.specs.Global.{Vec}
use Rattle.std.proofs.lemmas.Map.{lookup-none}
use Rattle.std.proofs.lemmas.Map.Entries.{none_below_head}
use Rattle.std.proofs.lemmas.Map.Keys.{sorted_tail}
use Rattle.std.proofs.lemmas.Map.Made.{lookup-map_values}
use Rattle.rtl_agenda.specs.Agenda.{Change, with_change}
use Rattle.rtl_agenda.specs.MapState.{waiting_of}

-- to write at a time that is there is to put an entry in
pub set_value-insert_entry : {X : Type 0} → (es : List (ℕ × X)) (t : ℕ) (v w : X) → IsStrictlySortedBy nat_cmp (keys_of es) → lookup (is_at (nat_cmp t)) es ≡ Some v
    → set_value (is_at (nat_cmp t)) es w ≡ insert_entry nat_cmp es t w
set_value-insert_entry [] t v w sorted found = cc
set_value-insert_entry {X} (e ∷ es) t v w sorted found =
    by (nat_cmp t e.0) refl found (set_value-insert_entry es t v w (sorted_tail nat_cmp e.0 (keys_of es) sorted))
  where
    by : (r : Ordering) → nat_cmp t e.0 ≡ r → cond (is_eq r) (Some e.1) (lookup (is_at (nat_cmp t)) es) ≡ Some v
        → (lookup (is_at (nat_cmp t)) es ≡ Some v → set_value (is_at (nat_cmp t)) es w ≡ insert_entry nat_cmp es t w)
        → cond (is_eq r) ((e.0, w) ∷ es) (e ∷ set_value (is_at (nat_cmp t)) es w) ≡ match_ordering r ((t, w) ∷ e ∷ es) ((e.0, w) ∷ es) (e ∷ insert_entry nat_cmp es t w)
    by Less is here later = let none = lookup-none (is_at (nat_cmp t)) es (none_below_head nat_cmp_total t e es sorted is).1 in cc
    by Equal is here later = refl
    by Greater is here later = ap (λ xs. e ∷ xs) (later here)

pub waiting_of-insert_entry : (es : List (ℕ × Vec Change)) (t : ℕ) (w : Vec Change) → waiting_of (insert_entry nat_cmp es t w) ≡ insert_entry nat_cmp (waiting_of es) t w.items
waiting_of-insert_entry [] t w = refl
waiting_of-insert_entry (e ∷ es) t w = by (nat_cmp t e.0) (waiting_of-insert_entry es t w)
  where
    by : (r : Ordering) → waiting_of (insert_entry nat_cmp es t w) ≡ insert_entry nat_cmp (waiting_of es) t w.items
        → waiting_of (match_ordering r ((t, w) ∷ e ∷ es) ((e.0, w) ∷ es) (e ∷ insert_entry nat_cmp es t w))
        ≡ match_ordering r ((t, w.items) ∷ waiting_of (e ∷ es)) ((e.0, w.items) ∷ waiting_of es) ((e.0, e.1.items) ∷ insert_entry nat_cmp (waiting_of es) t w.items)
    by Less later = refl
    by Equal later = refl
    by Greater later = ap (λ xs. (e.0, e.1.items) ∷ xs) later

-- the changes of a time with one more, put into the map
pub waiting_of-with_change : (es : List (ℕ × Vec Change)) (t : ℕ) (c : Change) (o : Option (Vec Change)) (w : Vec Change) → o ≡ lookup (is_at (nat_cmp t)) es
    → w.items ≡ unwrap_or (option_map (λ v. v.items) o) [] ++ c ∷ [] → waiting_of (insert_entry nat_cmp es t w) ≡ with_change (waiting_of es) t c
waiting_of-with_change es t c o w is items =
    waiting_of-insert_entry es t w
    ∙ ap (λ cs. insert_entry nat_cmp (waiting_of es) t cs)
    (items ∙ ap (λ p. unwrap_or p [] ++ c ∷ []) (ap (option_map (λ v. v.items)) is ∙ sym (lookup-map_values (λ v. v.items) (is_at (nat_cmp t)) es)))
