-- What the rows of transactions and values have at a place.
use Rattle.std.proofs.Common.{◌≡◌, ℕ, zero, suc, ◌<◌, true, false, not, List, [], ◌∷◌, length, get_or, map, Option, Some, None, refl, ap, arith, IsSome}
use Rattle.std.specs.List.{list_any}
use Rattle.std.specs.Option.{is_some}
use Rattle.std.proofs.lemmas.Bool.{not-true, not-false, eqb-true, ne_eqb, eqb-false}
use Rattle.rtl_model.proofs.basics.Lists.{all_none, none_at}
use Rattle.rtl_model.specs.basics.Valuations.{has_event}
use Rattle.rtl_model.specs.simulation.Netlist.{Netlist, no_process, process, Process}
use Rattle.rtl_model.specs.simulation.Cycle.{driver_values, all_driver_values, is_quiet, none_pending, over, resumed_processes, State}
use Rattle.rtl_model.specs.simulation.Machine.{entry_or}

abbrev pub transaction : State → ℕ → ℕ → Option ℕ
transaction s p place = get_or (get_or s.pending p []) place None

abbrev pub value : State → ℕ → ℕ → ℕ
value s p place = get_or (get_or s.drivers p []) place 0

-- what the driver has after the next update
abbrev pub out : State → ℕ → ℕ → ℕ
out s p place = entry_or (transaction s p place) (value s p place)

pub get_or-map : {X Y : Type 0} (f : X → Y) (xs : List X) (k : ℕ) (d : X) → get_or (map f xs) k (f d) ≡ f (get_or xs k d)
get_or-map f (x ∷ xs) (suc k) d = get_or-map f xs k d
get_or-map f _ _ d = refl

pub driven_all_at : (ps : List (List (Option ℕ))) (rows : List (List ℕ)) (p : ℕ) → get_or (all_driver_values ps rows) p [] ≡ driver_values (get_or ps p []) (get_or rows p [])
driven_all_at (a ∷ ps) [] p = none (get_or (a ∷ ps) p [])
  where
    none : (a : List (Option ℕ)) → [] ≡ driver_values a []
    none [] = refl
    none (x ∷ a) = refl
driven_all_at (a ∷ ps) (row ∷ rows) (suc p) = driven_all_at ps rows p
driven_all_at _ _ _ = refl

pub length-driven : (a : List (Option ℕ)) (xs : List ℕ) → length (driver_values a xs) ≡ length xs
length-driven (Some v ∷ a) (x ∷ xs) = ap suc (length-driven a xs)
length-driven (None ∷ a) (x ∷ xs) = ap suc (length-driven a xs)
length-driven _ _ = refl

pub driven_at : (a : List (Option ℕ)) (xs : List ℕ) (k : ℕ) → k < length xs → get_or (driver_values a xs) k 0 ≡ entry_or (get_or a k None) (get_or xs k 0)
driven_at (o ∷ a) [] k l = absurd (omega arith)
driven_at (Some v ∷ a) (x ∷ xs) (suc k) l = driven_at a xs k (omega arith)
driven_at (None ∷ a) (x ∷ xs) (suc k) l = driven_at a xs k (omega arith)
driven_at _ _ _ l = refl

-- over a map with nothing at the place
pub over_none : (as' bs : List (Option ℕ)) (k : ℕ) → get_or bs k None ≡ None → get_or (over as' bs) k None ≡ get_or as' k None
over_none (a ∷ as') [] k e = refl
over_none (Some v ∷ as') (b ∷ bs) zero e = refl
over_none (Some v ∷ as') (b ∷ bs) (suc k) e = over_none as' bs k e
over_none (None ∷ as') (b ∷ bs) (suc k) e = over_none as' bs k e
over_none _ _ _ e = e

pub no_entries : {X : Type 0} (xs : List X) (k : ℕ) → get_or (map {B = Option ℕ} (λ (x : X). None) xs) k None ≡ None
no_entries (x ∷ xs) (suc k) = no_entries xs k
no_entries _ _ = refl

pub none_pending_at : (pend : List (List (Option ℕ))) (p place : ℕ) → get_or (get_or (none_pending pend) p []) place None ≡ None
none_pending_at pend p place = rw (get_or-map (map {B = Option ℕ} (λ (x : Option ℕ). None)) pend p []) (no_entries (get_or pend p []) place)

-- quiet is to have no transaction
pub quiet_at : (s : State) → is_quiet s ≡ true → (p place : ℕ) → transaction s p place ≡ None
quiet_at s q p place = go (transaction s p place) (none_at is_some (get_or s.pending p []) place None (none_at (list_any is_some) s.pending p [] (not_true' q) refl) refl)
  where
    not_true' : not (list_any (list_any is_some) s.pending) ≡ true → list_any (list_any is_some) s.pending ≡ false
    not_true' h = not-true _ h

    go : (o : Option ℕ) → is_some o ≡ false → o ≡ None
    go None e = refl
    go (Some v) e = cc

pub quiet_from : (s : State) → ((p place : ℕ) → p < length s.pending → IsSome (transaction s p place) → ⊥) → is_quiet s ≡ true
quiet_from s h = ap not (all_none (list_any is_some) s.pending [] (λ p l. all_none is_some (get_or s.pending p []) None (λ place k. go p place l (transaction s p place) refl)))
  where
    go : (p place : ℕ) → p < length s.pending → (o : Option ℕ) → transaction s p place ≡ o → is_some (transaction s p place) ≡ false
    go p place l None e = ap is_some e
    go p place l (Some v) e = absurd (h p place l (ap is_some e))

-- a process is resumed where a net that it is sensitive to has an event
pub resumed_at : (net : Netlist) (before now : List ℕ) (p : ℕ) → get_or (resumed_processes net before now) p false ≡ list_any (has_event before now) (process net p).wakes
resumed_at net before now p = get_or-map (λ (q : Process). list_any (has_event before now) q.wakes) net.processes p no_process

pub event_differs : (before now : List ℕ) (n : ℕ) → has_event before now n ≡ true → get_or before n 0 ≡ get_or now n 0 → ⊥
event_differs before now n e h = eqb-false _ _ (not-true _ e) h

pub no_event_same : (before now : List ℕ) (n : ℕ) → has_event before now n ≡ false → get_or before n 0 ≡ get_or now n 0
no_event_same before now n e = eqb-true _ _ (not-false _ e)

pub differs_event : (before now : List ℕ) (n : ℕ) → (get_or before n 0 ≡ get_or now n 0 → ⊥) → has_event before now n ≡ true
differs_event before now n h = ap not (ne_eqb _ _ h)
