-- The processes with an active driver.
use Rattle.std.proofs.Common.{◌≡◌, ℕ, ◌<◌, ◌≤◌, false, not, ◌==◌, List, [], ◌∷◌, length, get_or, set, map, Option, Some, None, refl, sym, ap, ◌∙◌, arith, ◌⊎◌, inl, inr, IsSome, Contains}
use Rattle.std.specs.List.{list_any}
use Rattle.std.specs.Option.{is_some}
use Rattle.std.proofs.lemmas.Bool.{cases_eq, cases_lt, ne_eqb}
use Rattle.std.proofs.lemmas.List.{get_or-set_same, get_or-set_other, get_or_past, length-map, length-set, map-set}
use Rattle.std.proofs.lemmas.List.Elements.{Contains-get_or}
use Rattle.rtl_drives.specs.Outcomes.{Outcome}
use Rattle.rtl_drives.specs.Tracked.{AreAssigned}
use Rattle.rtl_model.proofs.basics.Lists.{all_none, any_true, Contains-none}
use Rattle.rtl_kernel.specs.worklists.Numbers.{Numbers, IsWith}
use Rattle.rtl_model.specs.simulation.Cycle.{all_driver_values}
use Rattle.rtl_model.proofs.simulation.Rows.{driven_all_at, get_or-map, length-driven, none_pending_at}
use Rattle.rtl_kernel.specs.drivers.Tracked.{AreTracked}
use Rattle.rtl_kernel.specs.drivers.Transactions.{Transactions, IsActive, pending_of, transaction_at, without_entries}
use Rattle.rtl_kernel.proofs.Updating.{length-driven_all, pending_without}

-- ---- whether there is one

within_row : (row : List (Option ℕ)) (place : ℕ) → IsSome (get_or row place None) → place < length row
within_row row place some = by (cases_lt place (length row))
  where
    by : (place < length row) ⊎ (length row ≤ place) → place < length row
    by (inl l) = l
    by (inr l) = let e = ap is_some (get_or_past row place None l) in absurd cc

within_rows : (rows : List (List (Option ℕ))) (p place : ℕ) → IsSome (get_or (get_or rows p []) place None) → p < length rows
within_rows rows p place some = by (cases_lt p (length rows))
  where
    by : (p < length rows) ⊎ (length rows ≤ p) → p < length rows
    by (inl l) = l
    by (inr l) = let e = ap (λ (r : List (Option ℕ)). is_some (get_or r place None)) (get_or_past rows p [] l) in absurd cc

pub quiet_is : (outcomes : List Outcome) (active : List ℕ) → ((p : ℕ) → IsActive (pending_of outcomes) p → Contains active p)
    → ((p : ℕ) → Contains active p → IsActive (pending_of outcomes) p)
    → (length active == 0) ≡ not (list_any (list_any is_some) (pending_of outcomes))
quiet_is outcomes [] all_active no_other =
    sym (ap not (all_none (list_any is_some) (pending_of outcomes) [] (λ p l. all_none is_some (get_or (pending_of outcomes) p []) None (λ place k. quiet p place (transaction_at (pending_of outcomes) p place) refl))))
  where
    quiet : (p place : ℕ) → (o : Option ℕ) → transaction_at (pending_of outcomes) p place ≡ o → is_some (transaction_at (pending_of outcomes) p place) ≡ false
    quiet p place None e = ap is_some e
    quiet p place (Some v) e = absurd (Contains-none p (all_active p (place, ap is_some e)))
quiet_is outcomes (p ∷ active) all_active no_other =
    let (place, some) = no_other p (0, omega arith, refl) in
    let rows = pending_of outcomes in
    let row = get_or rows p [] in
    let in_rows = within_rows rows p place some in
    let in_row = within_row row place some in
    let any_row = any_true is_some row (get_or row place None) (Contains-get_or row place None in_row) some in
    ne_eqb (length (p ∷ active)) 0 (λ e. omega arith) ∙ sym (ap not (any_true (list_any is_some) rows row (Contains-get_or rows p [] in_rows) any_row))

-- ---- once a process has run

module _ (outcomes : List Outcome) (p : ℕ) (o : Outcome) (there : p < length outcomes) where
  pending-set : pending_of (set outcomes p o) ≡ set (pending_of outcomes) p o.entries
  pending-set = map-set (λ (x : Outcome). x.entries) outcomes p o

  at_p : get_or (pending_of (set outcomes p o)) p [] ≡ o.entries
  at_p = ap (λ (r : List (List (Option ℕ))). get_or r p []) pending-set ∙ get_or-set_same (pending_of outcomes) p o.entries [] (rw length-map there)

  at_other : (q : ℕ) → (q ≡ p → ⊥) → get_or (pending_of (set outcomes p o)) q [] ≡ get_or (pending_of outcomes) q []
  at_other q n = ap (λ (r : List (List (Option ℕ))). get_or r q []) pending-set ∙ get_or-set_other (pending_of outcomes) p q o.entries [] n

  same_active : (q : ℕ) → (q ≡ p → ⊥) → (x y : List (Option ℕ)) → x ≡ y → (place : ℕ) × IsSome (get_or x place None) → (place : ℕ) × IsSome (get_or y place None)
  same_active q n x y e (place, some) = (place, sym (ap (λ (r : List (Option ℕ)). is_some (get_or r place None)) e) ∙ some)

  each_driver_ran : (rows : List (List ℕ)) → length o.entries ≡ length (get_or (pending_of outcomes) p []) → ((q : ℕ) → length (get_or rows q []) ≡ length (get_or (pending_of outcomes) q []))
      → (q : ℕ) → length (get_or rows q []) ≡ length (get_or (pending_of (set outcomes p o)) q [])
  each_driver_ran rows as_many each q = each q ∙ by (cases_eq q p)
    where
      by : (q ≡ p) ⊎ (q ≡ p → ⊥) → length (get_or (pending_of outcomes) q []) ≡ length (get_or (pending_of (set outcomes p o)) q [])
      by (inl e) = rw e (sym as_many ∙ sym (ap length at_p))
      by (inr n) = sym (ap length (at_other q n))

  module _ (assigned : List ℕ) (A : AreAssigned o.entries assigned) (old : List ℕ) (all_active : (q : ℕ) → IsActive (pending_of outcomes) q → Contains old q)
      (no_other : (q : ℕ) → Contains old q → IsActive (pending_of outcomes) q) (quiet : IsActive (pending_of outcomes) p → ⊥) where
    -- it has assigned nothing
    none_more : length assigned ≡ 0 → (q : ℕ) → IsActive (pending_of (set outcomes p o)) q → Contains old q
    none_more none q (place, some) = by (cases_eq q p)
      where
        by : (q ≡ p) ⊎ (q ≡ p → ⊥) → Contains old q
        by (inl e) =
            let here = sym (ap (λ (m : ℕ). is_some (get_or (get_or (pending_of (set outcomes p o)) m []) place None)) e ∙ ap (λ (r : List (Option ℕ)). is_some (get_or r place None)) at_p) ∙ some in
            let (k, l, is) = A.are_all place here in absurd (omega (arith, l, none))
        by (inr n) = all_active q (same_active q n _ _ (at_other q n) (place, some))

    still_active : (q : ℕ) → Contains old q → IsActive (pending_of (set outcomes p o)) q
    still_active q h = by (cases_eq q p)
      where
        by : (q ≡ p) ⊎ (q ≡ p → ⊥) → IsActive (pending_of (set outcomes p o)) q
        by (inl e) = absurd (quiet (rw e at (no_other q h)))
        by (inr n) = same_active q n _ _ (sym (at_other q n)) (no_other q h)

    -- it has assigned something
    module _ (old_set new : Numbers) (old_is : old ≡ old_set.members) (some : 0 < length assigned) (W : IsWith p old_set new) where
      one_more : (q : ℕ) → IsActive (pending_of (set outcomes p o)) q → Contains new.members q
      one_more q a = by (cases_eq q p)
        where
          by : (q ≡ p) ⊎ (q ≡ p → ⊥) → Contains new.members q
          by (inl e) = rw e W.added
          by (inr n) = W.kept q (rw (← old_is) (all_active q (same_active q n _ _ (at_other q n) a)))

      all_are_active : (q : ℕ) → Contains new.members q → IsActive (pending_of (set outcomes p o)) q
      all_are_active q h = by (W.no_other q h)
        where
          by : Contains old_set.members q ⊎ (q ≡ p) → IsActive (pending_of (set outcomes p o)) q
          by (inl there) = still_active q (rw old_is there)
          by (inr e) = rw e (get_or assigned 0 0, ap (λ (r : List (Option ℕ)). is_some (get_or r (get_or assigned 0 0) None)) at_p ∙ A.pass 0 some)

-- what is kept of the drivers once a process with no active one has run
module _ (t : Transactions) (active : Numbers) (T : AreTracked t active) (p : ℕ) (o : Outcome) (there : p < length t.outcomes) (as_many : length o.entries ≡ length (get_or (pending_of t.outcomes) p []))
    (assigned : List ℕ) (A : AreAssigned o.entries assigned) (quiet : IsActive (pending_of t.outcomes) p → ⊥) where
  pub tracked_idle : length assigned ≡ 0 → AreTracked (record t { outcomes = set t.outcomes p o }) active
  tracked_idle none = record {
    as_many = T.as_many ∙ sym (length-set t.outcomes p o);
    bound = T.bound ∙ sym (length-set t.outcomes p o);
    each_driver = each_driver_ran t.outcomes p o there t.drivers as_many T.each_driver;
    all_active = none_more t.outcomes p o there assigned A active.members T.all_active T.no_other quiet none;
    no_other = still_active t.outcomes p o there assigned A active.members T.all_active T.no_other quiet;
  }

  pub tracked_active : (new : Numbers) → 0 < length assigned → IsWith p active new → AreTracked (record t { outcomes = set t.outcomes p o }) new
  tracked_active new some W = record {
    as_many = T.as_many ∙ sym (length-set t.outcomes p o);
    bound = W.bound_stays ∙ T.bound ∙ sym (length-set t.outcomes p o);
    each_driver = each_driver_ran t.outcomes p o there t.drivers as_many T.each_driver;
    all_active = one_more t.outcomes p o there assigned A active.members T.all_active T.no_other quiet active new refl some W;
    no_other = all_are_active t.outcomes p o there assigned A active.members T.all_active T.no_other quiet active new refl some W;
  }

-- ---- once all transactions are taken

pub none_active : (outcomes : List Outcome) (p : ℕ) → IsActive (pending_of (map without_entries outcomes)) p → ⊥
none_active outcomes p (place, some) =
    let e = none_pending_at (pending_of outcomes) p place in
    let f = ap (λ (rows : List (List (Option ℕ))). is_some (get_or (get_or rows p []) place None)) (pending_without outcomes) in
    let g = sym f ∙ some in let h = ap is_some e in cc

pub each_driver_taken : (outcomes : List Outcome) (old new : List (List ℕ)) → new ≡ all_driver_values (pending_of outcomes) old
    → ((p : ℕ) → length (get_or old p []) ≡ length (get_or (pending_of outcomes) p []))
    → (p : ℕ) → length (get_or new p []) ≡ length (get_or (pending_of (map without_entries outcomes)) p [])
each_driver_taken outcomes old new is each p =
    ap (λ (rows : List (List ℕ)). length (get_or rows p [])) is ∙ ap length (driven_all_at (pending_of outcomes) old p)
    ∙ length-driven (get_or (pending_of outcomes) p []) (get_or old p []) ∙ each p
    ∙ sym (ap (λ (rows : List (List (Option ℕ))). length (get_or rows p [])) (pending_without outcomes)
    ∙ ap length (get_or-map (map {B = Option ℕ} (λ (x : Option ℕ). None)) (pending_of outcomes) p []) ∙ length-map (get_or (pending_of outcomes) p []) _)

pub rows_taken : (outcomes : List Outcome) (old new : List (List ℕ)) → new ≡ all_driver_values (pending_of outcomes) old → length old ≡ length outcomes → length new ≡ length outcomes
rows_taken outcomes old new is as_many =
    ap length is ∙ length-driven_all (pending_of outcomes) old (length-map outcomes _ ∙ sym as_many) ∙ as_many
