-- Transactions that are taken over, process by process.
use Rattle.std.proofs.Common.{◌≡◌, ℕ, zero, suc, ◌+◌, ◌-◌, ◌<◌, ◌≤◌, List, [], ◌∷◌, length, get_or, set, drop, map, replicate, Option, Some, None, refl, sym, ap, subst, ◌∙◌, arith, ◌⊎◌, inl, inr, IsSome, Contains}
use Rattle.std.proofs.lemmas.Bool.{cases_eq, cases_lt}
use Rattle.std.proofs.lemmas.List.{ext_get_or, get_or-set_same, get_or-set_other, get_or_default, length-set, length-map, length-replicate, map-set}
use Rattle.std.proofs.Math.Seq.{map-set_same}
use Rattle.rtl_drives.specs.Outcomes.{Outcome}
use Rattle.rtl_drives.specs.declared.spans.Span.{Span}
use Rattle.rtl_drives.specs.Spans.{places_of}
use Rattle.rtl_drives.specs.Tracked.{AreAssigned}
use Rattle.rtl_drives.proofs.Assigned.{no_entry}
use Rattle.rtl_drives.proofs.Places.{left_of, none_behind}
use Rattle.rtl_model.specs.simulation.Cycle.{driver_values, all_driver_values, none_pending}
use Rattle.rtl_model.specs.simulation.Machine.{entry_or}
use Rattle.rtl_model.proofs.basics.Lists.{get_or-map_within}
use Rattle.rtl_model.proofs.simulation.Rows.{driven_all_at, driven_at, length-driven}
use Rattle.std.specs.Option.{is_some}
use Rattle.rtl_net.specs.Nets.{NetlistView}
use Rattle.rtl_net.specs.declared.process.Driver as net
use Rattle.rtl_net_groups.specs.Written.{IsWritten}
use Rattle.rtl_kernel.specs.drivers.Brought.{NotedNets, IsDriver, IsDriverOf, Brings}
use Rattle.rtl_kernel.specs.drivers.Transactions.{Transactions, IsActive, driver_at, nets_of, targets_of, pending_of, without_entries}
use Rattle.rtl_kernel.specs.drivers.Updates.{TakesEntries, IsTaken, IsUpdating}
use Rattle.rtl_kernel.proofs.Brought.{brought_none, brought_then, brings_one}

-- ---- one row

-- no transaction changes nothing
pub driven_none : (a : List (Option ℕ)) (xs : List ℕ) → length a ≡ length xs → ((place : ℕ) → IsSome (get_or a place None) → ⊥) → driver_values a xs ≡ xs
driven_none [] xs l h = refl
driven_none (o ∷ a) [] l h = absurd (omega arith)
driven_none (None ∷ a) (x ∷ xs) l h = ap (λ ys. x ∷ ys) (driven_none a xs (omega arith) (λ place. h (suc place)))
driven_none (Some v ∷ a) (x ∷ xs) l h = absurd (h 0 refl)

pub none_in_replicate : (n place : ℕ) → IsSome (get_or (replicate {A = Option ℕ} n None) place None) → ⊥
none_in_replicate zero place h = absurd cc
none_in_replicate (suc n) zero h = absurd cc
none_in_replicate (suc n) (suc place) h = none_in_replicate n place h

pub driven_cleared : (n : ℕ) (xs : List ℕ) → n ≡ length xs → driver_values (replicate {A = Option ℕ} n None) xs ≡ xs
driven_cleared zero xs l = refl
driven_cleared (suc n) [] l = absurd (omega arith)
driven_cleared (suc n) (x ∷ xs) l = ap (λ ys. x ∷ ys) (driven_cleared n xs (omega arith))

-- each driver has its transaction's value, and where there is none its own
pub driven_from : (entries : List (Option ℕ)) (old new : List ℕ) → length new ≡ length old
    → ((q : ℕ) → get_or entries q None ≡ None → get_or new q 0 ≡ get_or old q 0)
    → ((q v : ℕ) → get_or entries q None ≡ Some v → get_or new q 0 ≡ v) → new ≡ driver_values entries old
driven_from entries old new as_many unassigned assigned =
    ext_get_or 0 new (driver_values entries old) (as_many ∙ sym (length-driven entries old))
    (λ q l. by q (get_or entries q None) refl ∙ sym (driven_at entries old q (omega arith)))
  where
    by : (q : ℕ) → (o : Option ℕ) → get_or entries q None ≡ o → get_or new q 0 ≡ entry_or (get_or entries q None) (get_or old q 0)
    by q None e = rw e (unassigned q e)
    by q (Some v) e = rw e (assigned q v e)

-- ---- all rows

pub length-driven_all : (ps : List (List (Option ℕ))) (xs : List (List ℕ)) → length ps ≡ length xs
    → length (all_driver_values ps xs) ≡ length xs
length-driven_all [] xs l = refl
length-driven_all (p ∷ ps) [] l = absurd (omega arith)
length-driven_all (p ∷ ps) (x ∷ xs) l = ap suc (length-driven_all ps xs (omega arith))

-- without an active driver the rows are those that they drive
pub all_driven : (pending : List (List (Option ℕ))) (drivers new : List (List ℕ)) → length new ≡ length drivers → length pending ≡ length drivers
    → ((p : ℕ) → get_or new p [] ≡ driver_values (get_or pending p []) (get_or drivers p [])) → new ≡ all_driver_values pending drivers
all_driven pending drivers new as_many rows_too each =
    ext_get_or [] new (all_driver_values pending drivers) (as_many ∙ sym (length-driven_all pending drivers rows_too))
    (λ p l. each p ∙ sym (driven_all_at pending drivers p))

-- an outcome without an entry is the same without entries
pub none_to_take : (outcomes : List Outcome) → ((p : ℕ) → IsActive (pending_of outcomes) p → ⊥) → map without_entries outcomes ≡ outcomes
none_to_take [] h = refl
none_to_take (o ∷ outcomes) h =
    let first : o.entries ≡ replicate (length o.entries) None = no_entry o.entries (λ place some. h 0 (place, some)) in
    let rest = none_to_take outcomes (λ p. h (suc p)) in
    λ i. record { entries = sym first i; starts = o.starts; variables = o.variables; room = o.room; laid = o.laid; bits = o.bits } ∷ rest i

-- what is pending without entries
pub pending_without : (outcomes : List Outcome) → pending_of (map without_entries outcomes) ≡ none_pending (pending_of outcomes)
pending_without [] = refl
pending_without (o ∷ outcomes) = let rest = pending_without outcomes in λ i. nones o.entries i ∷ rest i
  where
    nones : (es : List (Option ℕ)) → replicate {A = Option ℕ} (length es) None ≡ map {B = Option ℕ} (λ e. None) es
    nones [] = refl
    nones (e ∷ es) = ap (λ ns. None ∷ ns) (nones es)

-- ---- the drivers of one process

pub net_at : (ds : List net.Driver) (k : ℕ) (d : net.Driver) → k < length ds → get_or (nets_of ds) k 0 ≡ (get_or ds k d).net
net_at ds k d within = get_or-map_within (λ (d : net.Driver). d.net) ds k d 0 within

module _ (targets : List ℕ) (entries : List (Option ℕ)) where
  pub takes_none : (old : List ℕ) (nets : NotedNets) → TakesEntries targets entries old nets old nets
  takes_none old nets = record {
    as_many = refl;
    unassigned = λ q e. refl;
    stay = λ q h. h;
    brings = brought_none (λ place net. IsDriver targets place net) (λ q. get_or old q 0) nets;
  }

  -- the places from one on, whose transactions are these, are taken together
  pub takes_run : (old new : List ℕ) (nets nets' : NotedNets) (place : ℕ) (values : List ℕ)
      → ((k : ℕ) → k < length values → get_or entries (place + k) None ≡ Some (get_or values k 0)) → IsWritten place values old new
      → Brings targets old new nets nets' → TakesEntries targets entries old nets new nets'
  takes_run old new nets nets' place values are W B = record {
    as_many = W.as_many;
    unassigned = λ q e. unassigned q e (cases_lt q place) (cases_lt q (place + length values));
    stay = λ q h w e. stay q h w e (cases_lt q place) (cases_lt q (place + length values));
    brings = B;
  }
    where
      unassigned : (q : ℕ) → get_or entries q None ≡ None → (q < place) ⊎ (place ≤ q)
          → (q < place + length values) ⊎ (place + length values ≤ q) → get_or new q 0 ≡ get_or old q 0
      unassigned q e (inl low) _ = W.below q low
      unassigned q e (inr from) (inr high) = W.behind q high
      unassigned q e (inr from) (inl l) =
          let at : q ≡ place + (q - place) = omega (arith, from) in
          let some = are (q - place) (omega (arith, l, from)) in
          let none = ap (λ (p : ℕ). get_or entries p None) (sym at) ∙ e in
          absurd cc

      stay : (q : ℕ) → IsTaken entries old q → (w : ℕ) → get_or entries q None ≡ Some w → (q < place) ⊎ (place ≤ q)
          → (q < place + length values) ⊎ (place + length values ≤ q) → get_or new q 0 ≡ w
      stay q h w e (inl low) _ = W.below q low ∙ h w e
      stay q h w e (inr from) (inr high) = W.behind q high ∙ h w e
      stay q h w e (inr from) (inl l) =
          let at : q ≡ place + (q - place) = omega (arith, from) in
          let within : q - place < length values = omega (arith, l, from) in
          let some = are (q - place) within in
          let has = ap (λ (p : ℕ). get_or entries p None) (sym at) ∙ e in
          ap (λ (p : ℕ). get_or new p 0) at ∙ W.written (q - place) within ∙ (let is : get_or values (q - place) 0 ≡ w = cc in is)

  pub takes_then : (old mid new : List ℕ) (a b d : NotedNets) → TakesEntries targets entries old a mid b → TakesEntries targets entries mid b new d
      → TakesEntries targets entries old a new d
  takes_then old mid new a b d A B = record {
    as_many = B.as_many ∙ A.as_many;
    unassigned = λ q e. B.unassigned q e ∙ A.unassigned q e;
    stay = λ q h. B.stay q (A.stay q h);
    brings = brought_then (λ place net. IsDriver targets place net) (λ q. get_or old q 0) (λ q. get_or mid q 0) (λ q. get_or new q 0) a b d A.brings B.brings;
  }

  -- where all are taken, they have what they are driven to
  pub taken_values : (old : List ℕ) (a : NotedNets) (new : List ℕ) (b : NotedNets) → TakesEntries targets entries old a new b
      → ((q : ℕ) → IsTaken entries new q) → new ≡ driver_values entries old
  taken_values old a new b T taken = driven_from entries old new T.as_many T.unassigned taken

module _ (entries : List (Option ℕ)) where
  pub taken_here : (values : List ℕ) (place v : ℕ) → get_or entries place None ≡ Some v → get_or values place 0 ≡ v → IsTaken entries values place
  taken_here values place v entry has w e = has ∙ (let g : v ≡ w = cc in g)

  -- places whose transactions are the values there are taken
  pub taken_more : (values values' : List ℕ) (from first : ℕ) (run : List ℕ) → ((k : ℕ) → k < length run → get_or entries (first + k) None ≡ Some (get_or run k 0))
      → ((k : ℕ) → k < length run → get_or values' (first + k) 0 ≡ get_or run k 0) → ((q : ℕ) → IsTaken entries values q → IsTaken entries values' q)
      → ((q : ℕ) → from ≤ q → q < first → IsTaken entries values q) → (q : ℕ) → from ≤ q → q < first + length run → IsTaken entries values' q
  taken_more values values' from first run are is stay taken q low high = by (cases_lt q first)
    where
      by : (q < first) ⊎ (first ≤ q) → IsTaken entries values' q
      by (inl l) = stay q (taken q low l)
      by (inr behind) =
          let at : first + (q - first) ≡ q = omega (arith, behind) in
          let within : q - first < length run = omega (arith, high, behind) in
          subst (λ (p : ℕ). IsTaken entries values' p) at (taken_here values' (first + (q - first)) (get_or run (q - first) 0) (are (q - first) within) (is (q - first) within))

  -- before the first span, what is not taken is in one of them
  pub left_all : (values : List ℕ) (spans : List Span) → AreAssigned entries (places_of spans) → (q : ℕ) → IsTaken entries values q ⊎ Contains (places_of spans) q
  left_all values spans A q = by (get_or entries q None) refl
    where
      by : (o : Option ℕ) → get_or entries q None ≡ o → IsTaken entries values q ⊎ Contains (places_of spans) q
      by None e = inl (λ v f. absurd cc)
      by (Some v) e = inr (A.are_all q (ap is_some e))

  -- a span less
  pub left_one : (values values' : List ℕ) (spans : List Span) (i : ℕ) (d : Span) → i < length spans
      → ((q : ℕ) → IsTaken entries values q → IsTaken entries values' q)
      → ((k : ℕ) → k < (get_or spans i d).len → IsTaken entries values' ((get_or spans i d).first + k))
      → ((q : ℕ) → IsTaken entries values q ⊎ Contains (places_of (drop i spans)) q) → (q : ℕ) → IsTaken entries values' q ⊎ Contains (places_of (drop (i + 1) spans)) q
  left_one values values' spans i d l stay taken left q = by (left q)
    where
      there : ((k : ℕ) × (k < (get_or spans i d).len) × ((get_or spans i d).first + k ≡ q)) ⊎ Contains (places_of (drop (i + 1) spans)) q
          → IsTaken entries values' q ⊎ Contains (places_of (drop (i + 1) spans)) q
      there (inl (k, m, is)) = inl (subst (λ (p : ℕ). IsTaken entries values' p) is (taken k m))
      there (inr rest) = inr rest

      by : IsTaken entries values q ⊎ Contains (places_of (drop i spans)) q → IsTaken entries values' q ⊎ Contains (places_of (drop (i + 1) spans)) q
      by (inl h) = inl (stay q h)
      by (inr later) = there (left_of spans i d q l later)

  -- behind the last span all are taken
  pub none_left : (values : List ℕ) (spans : List Span) (i : ℕ) → length spans ≤ i → ((q : ℕ) → IsTaken entries values q ⊎ Contains (places_of (drop i spans)) q)
      → (q : ℕ) → IsTaken entries values q
  none_left values spans i done left q = by (left q)
    where
      by : IsTaken entries values q ⊎ Contains (places_of (drop i spans)) q → IsTaken entries values q
      by (inl h) = h
      by (inr there) = absurd (none_behind spans i done q there)

-- ---- the drivers of all processes

length-cleared : (o : Outcome) → without_entries (without_entries o) ≡ without_entries o
length-cleared o = ap (λ (n : ℕ). record { entries = replicate {A = Option ℕ} n None; starts = o.starts; variables = o.variables; room = o.room; laid = o.laid; bits = o.bits }) (length-replicate (length o.entries) None)

module _ (active : List ℕ) (t : Transactions) (nets : NotedNets) where
  pub updating_none_yet : ((p : ℕ) → IsActive (pending_of t.outcomes) p → Contains active p) → IsUpdating active 0 t nets t nets
  updating_none_yet all_active = record {
    each_outcome = refl;
    each_row = refl;
    outcomes_stay = refl;
    each_entry = λ p. refl;
    each_value = λ p. refl;
    driven_stay = λ p. refl;
    left = λ p a. let (k, l, is) = all_active p a in (k, omega arith, l, get_or_default active k 0 p l ∙ is);
    brings = brought_none (IsDriverOf nets.net.processes) (λ d. driver_at t.drivers d.0 d.1) nets;
  }

  module _ (i : ℕ) (t' : Transactions) (nets' : NotedNets) (I : IsUpdating active i t nets t' nets') where
    abbrev outcomes' : List Outcome
    outcomes' = t'.outcomes

    abbrev drivers' : List (List ℕ)
    drivers' = t'.drivers

    module _ (p : ℕ) (o cleared : Outcome) (row : List ℕ) (nets'' : NotedNets) (is : get_or active i 0 ≡ p) (there : p < length outcomes') (there_too : p < length drivers')
        (o_is : get_or outcomes' p o ≡ o) (cleared_is : cleared ≡ without_entries o) (row_is : row ≡ driver_values o.entries (get_or drivers' p []))
        (as_many : length (get_or drivers' p []) ≡ length o.entries) (T : Brings (targets_of nets'.net.processes p) (get_or drivers' p []) row nets' nets'') where
      abbrev nones : List (Option ℕ)
      nones = replicate (length o.entries) None

      entries_at : get_or (pending_of outcomes') p [] ≡ o.entries
      entries_at = get_or-map_within (λ (x : Outcome). x.entries) outcomes' p o [] there ∙ ap (λ (x : Outcome). x.entries) o_is

      pending_is : pending_of (set outcomes' p cleared) ≡ set (pending_of outcomes') p nones
      pending_is = map-set (λ (x : Outcome). x.entries) outcomes' p cleared ∙ ap (λ (x : Outcome). set (pending_of outcomes') p x.entries) cleared_is

      at_p : get_or (pending_of (set outcomes' p cleared)) p [] ≡ nones
      at_p = ap (λ (r : List (List (Option ℕ))). get_or r p []) pending_is ∙ get_or-set_same (pending_of outcomes') p nones [] (rw length-map there)

      at_other : (q : ℕ) → (q ≡ p → ⊥) → get_or (pending_of (set outcomes' p cleared)) q [] ≡ get_or (pending_of outcomes') q []
      at_other q n = ap (λ (r : List (List (Option ℕ))). get_or r q []) pending_is ∙ get_or-set_other (pending_of outcomes') p q nones [] n

      row_at_p : get_or (set drivers' p row) p [] ≡ row
      row_at_p = get_or-set_same drivers' p row [] there_too

      row_length : length row ≡ length o.entries
      row_length = ap length row_is ∙ length-driven o.entries (get_or drivers' p []) ∙ as_many

      -- the processes are those from which the update began
      own : Brings (targets_of nets.net.processes p) (get_or drivers' p []) row nets' nets''
      own = subst (λ (n : NetlistView). Brings (targets_of n.processes p) (get_or drivers' p []) row nets' nets'') I.brings.stay.net_stays T

      pub updating_one : IsUpdating active (i + 1) t nets (record { drivers = set drivers' p row; outcomes = set outcomes' p cleared }) nets''
      updating_one = record {
        each_outcome = length-set outcomes' p cleared ∙ I.each_outcome;
        each_row = length-set drivers' p row ∙ I.each_row;
        outcomes_stay = map-set_same without_entries outcomes' p cleared o (ap without_entries cleared_is ∙ length-cleared o ∙ ap without_entries (sym o_is)) ∙ I.outcomes_stay;
        each_entry = λ q. entry q (cases_eq q p);
        each_value = λ q. value q (cases_eq q p);
        driven_stay = λ q. driven_too q (cases_eq q p);
        left = λ q a. left q a (cases_eq q p);
        brings = brought_then (IsDriverOf nets.net.processes) (λ d. driver_at t.drivers d.0 d.1) (λ d. driver_at drivers' d.0 d.1)
            (λ d. driver_at (set drivers' p row) d.0 d.1) nets nets' nets'' I.brings (brings_one nets.net.processes drivers' p row there_too nets' nets'' own);
      }
        where
          entry : (q : ℕ) → (q ≡ p) ⊎ (q ≡ p → ⊥) → length (get_or (pending_of (set outcomes' p cleared)) q []) ≡ length (get_or (pending_of t.outcomes) q [])
          entry q (inl e) = rw e (ap length at_p ∙ length-replicate (length o.entries) None ∙ sym (ap length entries_at) ∙ I.each_entry p)
          entry q (inr n) = ap length (at_other q n) ∙ I.each_entry q

          value : (q : ℕ) → (q ≡ p) ⊎ (q ≡ p → ⊥) → length (get_or (set drivers' p row) q []) ≡ length (get_or t.drivers q [])
          value q (inl e) = rw e (ap length row_at_p ∙ row_length ∙ sym as_many ∙ I.each_value p)
          value q (inr n) = ap length (get_or-set_other drivers' p q row [] n) ∙ I.each_value q

          driven_too : (q : ℕ) → (q ≡ p) ⊎ (q ≡ p → ⊥) → driver_values (get_or (pending_of (set outcomes' p cleared)) q []) (get_or (set drivers' p row) q [])
              ≡ driver_values (get_or (pending_of t.outcomes) q []) (get_or t.drivers q [])
          driven_too q (inl e) =
              rw e (ap (λ (a : List (Option ℕ)). driver_values a (get_or (set drivers' p row) p [])) at_p ∙ ap (driver_values nones) row_at_p
              ∙ driven_cleared (length o.entries) row (sym row_length) ∙ row_is ∙ ap (λ (a : List (Option ℕ)). driver_values a (get_or drivers' p [])) (sym entries_at) ∙ I.driven_stay p)
          driven_too q (inr n) =
              ap (λ (a : List (Option ℕ)). driver_values a (get_or (set drivers' p row) q [])) (at_other q n)
              ∙ ap (driver_values (get_or (pending_of outcomes') q [])) (get_or-set_other drivers' p q row [] n) ∙ I.driven_stay q

          left : (q : ℕ) → IsActive (pending_of (set outcomes' p cleared)) q → (q ≡ p) ⊎ (q ≡ p → ⊥) → (k : ℕ) × (i + 1 ≤ k) × (k < length active) × (get_or active k 0 ≡ q)
          left q (place, some) (inl e) = absurd (none_in_replicate (length o.entries) place
              (sym (ap (λ (m : ℕ). is_some (get_or (get_or (pending_of (set outcomes' p cleared)) m []) place None)) e ∙ ap (λ (r : List (Option ℕ)). is_some (get_or r place None)) at_p) ∙ some))
          left q (place, some) (inr n) =
              let (k, from, within, at) = I.left q (place, sym (ap (λ (r : List (Option ℕ)). is_some (get_or r place None)) (at_other q n)) ∙ some) in
              let differ : k ≡ i → ⊥ = λ e. n (sym at ∙ ap (λ (m : ℕ). get_or active m 0) e ∙ is) in
              (k, omega (arith, from, differ), within, at)

    module _ (done : length active ≤ i) where
      none_left_active : (p : ℕ) → IsActive (pending_of outcomes') p → ⊥
      none_left_active p a = let (k, from, within, at) = I.left p a in omega (arith, from, within, done)

      pub updated_outcomes : outcomes' ≡ map without_entries t.outcomes
      updated_outcomes = sym (none_to_take outcomes' none_left_active) ∙ I.outcomes_stay

      pub updated_drivers : length t.drivers ≡ length t.outcomes → ((p : ℕ) → length (get_or t.drivers p []) ≡ length (get_or (pending_of t.outcomes) p []))
          → drivers' ≡ all_driver_values (pending_of t.outcomes) t.drivers
      updated_drivers as_many each =
          all_driven (pending_of t.outcomes) t.drivers drivers' I.each_row (length-map t.outcomes _ ∙ sym as_many)
          (λ p. sym (driven_none (get_or (pending_of outcomes') p []) (get_or drivers' p []) (I.each_entry p ∙ sym (each p) ∙ sym (I.each_value p))
          (λ place some. none_left_active p (place, some))) ∙ I.driven_stay p)
