-- The changes of each time once a change more waits.
use Rattle.std.proofs.Common.{◌≡◌, ◌≢◌, ℕ, List, [], ◌∷◌, ◌++◌, true, false, cond, Some, refl, sym, ap, ◌∙◌}
use Rattle.std.specs.Prelude.{unwrap_or}
use Rattle.std.specs.Ordering.{nat_cmp, is_eq, match_ordering}
use Rattle.std.specs.declared.cmp.Ordering.{Ordering}
use Rattle.std.specs.declared.cmp.Ordering.TheVariants.{Less, Equal, Greater}
use Rattle.std.specs.Cmp.{nat_cmp_is}
use Rattle.std.specs.Map.{lookup}
use Rattle.std.specs.BTreeMap.{is_at, insert_entry}
use Rattle.std.proofs.lemmas.Map.Entries.{lookup_head, lookup_tail}
use Rattle.std.proofs.lemmas.Map.Lookups.{exact_unsigned}
use Rattle.rtl_agenda.specs.Agenda.{Change, changes_at}
use Rattle.rtl_agenda.specs.Laws.{EachPushIsLast}

pub same_time : (t : ℕ) → is_at (nat_cmp t) t ≡ true
same_time t = ap is_eq (sym (nat_cmp_is t t Equal refl))

pub other_time : (q t : ℕ) → q ≢ t → is_at (nat_cmp q) t ≡ false
other_time q t differ = by (nat_cmp q t) refl
  where
    by : (r : Ordering) → nat_cmp q t ≡ r → is_eq r ≡ false
    by Less is = refl
    by Equal is = absurd (differ (exact_unsigned q t is))
    by Greater is = refl

pub lookup-insert_entry : (es : List (ℕ × List Change)) (t : ℕ) (v : List Change) → lookup (is_at (nat_cmp t)) (insert_entry nat_cmp es t v) ≡ Some v
lookup-insert_entry [] t v = lookup_head (is_at (nat_cmp t)) (t, v) [] (same_time t)
lookup-insert_entry (e ∷ es) t v = by (nat_cmp t e.0) refl (lookup-insert_entry es t v)
  where
    by : (r : Ordering) → nat_cmp t e.0 ≡ r → lookup (is_at (nat_cmp t)) (insert_entry nat_cmp es t v) ≡ Some v
        → lookup (is_at (nat_cmp t)) (match_ordering r ((t, v) ∷ e ∷ es) ((e.0, v) ∷ es) (e ∷ insert_entry nat_cmp es t v)) ≡ Some v
    by Less is later = lookup_head (is_at (nat_cmp t)) (t, v) (e ∷ es) (same_time t)
    by Equal is later = lookup_head (is_at (nat_cmp t)) (e.0, v) es (ap is_eq is)
    by Greater is later = lookup_tail (is_at (nat_cmp t)) e (insert_entry nat_cmp es t v) (ap is_eq is) ∙ later

pub lookup-insert_entry_apart : (es : List (ℕ × List Change)) (t q : ℕ) (v : List Change) → q ≢ t
    → lookup (is_at (nat_cmp q)) (insert_entry nat_cmp es t v) ≡ lookup (is_at (nat_cmp q)) es
lookup-insert_entry_apart [] t q v differ = lookup_tail (is_at (nat_cmp q)) (t, v) [] (other_time q t differ)
lookup-insert_entry_apart (e ∷ es) t q v differ = by (nat_cmp t e.0) refl (lookup-insert_entry_apart es t q v differ)
  where
    by : (r : Ordering) → nat_cmp t e.0 ≡ r → lookup (is_at (nat_cmp q)) (insert_entry nat_cmp es t v) ≡ lookup (is_at (nat_cmp q)) es
        → lookup (is_at (nat_cmp q)) (match_ordering r ((t, v) ∷ e ∷ es) ((e.0, v) ∷ es) (e ∷ insert_entry nat_cmp es t v)) ≡ lookup (is_at (nat_cmp q)) (e ∷ es)
    by Less is later = lookup_tail (is_at (nat_cmp q)) (t, v) (e ∷ es) (other_time q t differ)
    by Equal is later =
        let other = other_time q e.0 (λ p. differ (p ∙ sym (exact_unsigned t e.0 is))) in
        lookup_tail (is_at (nat_cmp q)) (e.0, v) es other ∙ sym (lookup_tail (is_at (nat_cmp q)) e es other)
    by Greater is later = ap (cond (is_at (nat_cmp q) e.0) (Some e.1)) later

pub each_push_is_last : EachPushIsLast
each_push_is_last waiting time change = (
  ap (λ o. unwrap_or o []) (lookup-insert_entry waiting time (changes_at waiting time ++ change ∷ [])),
  λ other differ. ap (λ o. unwrap_or o []) (lookup-insert_entry_apart waiting time other (changes_at waiting time ++ change ∷ []) differ),
)
