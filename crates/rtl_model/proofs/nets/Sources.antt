-- The sources of a net are its drivers and its idle ports.
use Rattle.std.proofs.Common.{◌≡◌, ℕ, zero, suc, ◌+◌, ◌<◌, ◌≤◌, Bool, true, false, cond, ◌==◌, List, [], ◌∷◌, ◌++◌, length, map, slice_index, slice_index_or}
use Rattle.std.proofs.Common.{refl, sym, ap, ◌∙◌, subst, arith, Contains, ◌⊎◌, inl, inr}
use Rattle.std.specs.List.{range_with_len}
use Rattle.std.proofs.lemmas.List.{get_or_past}
use Rattle.std.proofs.lemmas.List.FromFn.{length-map-range_with_len, get_or-map-range_with_len}
use Rattle.std.proofs.lemmas.List.Elements.{Contains-append_left, Contains-append_right}
use Rattle.std.proofs.lemmas.Bool.{cases_lt, eqb-true, eq-eqb}
use Rattle.rtl_model.specs.nets.FlatNetlist as flat
use Rattle.rtl_model.specs.nets.FlatNetlist.{FlatNetlist, FlatProcess, targets, drivers_of, all_drivers_of, flat_sources}
use Rattle.rtl_model.specs.nets.CoreNetlist.{core_netlist}
use Rattle.rtl_model.specs.simulation.Netlist as c
use Rattle.rtl_model.specs.simulation.Netlist.{Source, Driver, Idle}
use Rattle.rtl_model.proofs.basics.Lists.{Contains-none, Contains-first}

-- ---- the sources in the core

pub sources-core_net : (net : FlatNetlist) (n : ℕ) → n < length net.types → c.sources_of (core_netlist net) n ≡ flat_sources net n
sources-core_net net n l = get_or-map-range_with_len (flat_sources net) 0 (length net.types) n n [] l (omega arith)

-- a net with a source in the core is there
pub source_there : (net : FlatNetlist) (n : ℕ) (source : Source) → Contains (c.sources_of (core_netlist net) n) source → n < length net.types
source_there net n source h = go (cases_lt n (length net.types))
  where
    go : (n < length net.types) ⊎ (length net.types ≤ n) → n < length net.types
    go (inl l) = l
    go (inr l) =
        let none : c.sources_of (core_netlist net) n ≡ [] = get_or_past (map (flat_sources net) (range_with_len 0 (length net.types))) n [] (omega (arith, length-map-range_with_len (flat_sources net) 0 (length net.types))) in
        absurd (Contains-none source (subst (λ (xs : List Source). Contains xs source) none h))

-- ---- either of two lists

pub Contains-either : {X : Type 0} (xs ys : List X) (x : X) → Contains (xs ++ ys) x → Contains xs x ⊎ Contains ys x
Contains-either [] ys x h = inr h
Contains-either {X} (z ∷ xs) ys x (zero, l, at) = inl (zero, omega arith, at)
Contains-either {X} (z ∷ xs) ys x (suc k, l, at) = go (Contains-either xs ys x (k, omega arith, at))
  where
    go : Contains xs x ⊎ Contains ys x → Contains (z ∷ xs) x ⊎ Contains ys x
    go (inl (j, m, e)) = inl (suc j, omega arith, e)
    go (inr h) = inr h

Contains-rest : {X : Type 0} (x y : X) (xs : List X) → Contains xs y → Contains (x ∷ xs) y
Contains-rest x y xs (k, l, e) = (suc k, omega arith, e)

-- ---- the drivers among them

record IsAt (nets : List ℕ) (n p place : ℕ) (source : Source) : Type 0 where
  offset : ℕ
  there : offset < length nets
  net_is : slice_index nets offset ≡ n
  source_is : source ≡ Driver p (place + offset)

drivers_are : (n p place : ℕ) (nets : List ℕ) (source : Source) → Contains (drivers_of n p place nets) source → IsAt nets n p place source
drivers_are n p place [] source h = absurd (Contains-none source h)
drivers_are n p place (net ∷ nets) source h = go (net == n) refl (drivers_are n p (suc place) nets source) h
  where
    go : (t : Bool) → (net == n) ≡ t → (Contains (drivers_of n p (suc place) nets) source → IsAt nets n p (suc place) source)
        → Contains (cond t (Driver p place ∷ drivers_of n p (suc place) nets) (drivers_of n p (suc place) nets)) source → IsAt (net ∷ nets) n p place source
    go true e more (zero, l, at) = record { offset = 0; there = omega arith; net_is = eqb-true net n e; source_is = sym at ∙ ap (Driver p) (omega arith) }
    go true e more (suc k, l, at) = let r = more (k, omega arith, at) in record { offset = suc r.offset; there = (let t = r.there in omega arith); net_is = r.net_is; source_is = r.source_is ∙ ap (Driver p) (omega arith) }
    go false e more h = let r = more h in record { offset = suc r.offset; there = (let t = r.there in omega arith); net_is = r.net_is; source_is = r.source_is ∙ ap (Driver p) (omega arith) }

is_among : (n p place : ℕ) (nets : List ℕ) (k : ℕ) → k < length nets → slice_index nets k ≡ n → Contains (drivers_of n p place nets) (Driver p (place + k))
is_among n p place [] k l e = absurd (omega arith)
is_among n p place (net ∷ nets) zero l e = rw (eq-eqb net n e) (subst (λ (x : ℕ). Contains (Driver p place ∷ drivers_of n p (suc place) nets) (Driver p x)) (omega arith) (Contains-first (Driver p place) (drivers_of n p (suc place) nets)))
is_among n p place (net ∷ nets) (suc k) l e = go (net == n) (subst (λ (x : ℕ). Contains (drivers_of n p (suc place) nets) (Driver p x)) (omega arith) (is_among n p (suc place) nets k (omega arith) e))
  where
    go : (t : Bool) → Contains (drivers_of n p (suc place) nets) (Driver p (place + suc k)) → Contains (cond t (Driver p place ∷ drivers_of n p (suc place) nets) (drivers_of n p (suc place) nets)) (Driver p (place + suc k))
    go true h = Contains-rest (Driver p place) (Driver p (place + suc k)) (drivers_of n p (suc place) nets) h
    go false h = h

-- process p + i of a list that begins with process p has a driver of n at this place
record IsOf (ps : List FlatProcess) (n p : ℕ) (source : Source) : Type 0 where
  offset : ℕ
  place : ℕ
  there : place < length (targets (slice_index_or ps offset flat.no_flat_process))
  net_is : slice_index (targets (slice_index_or ps offset flat.no_flat_process)) place ≡ n
  source_is : source ≡ Driver (p + offset) place

all_are : (n p : ℕ) (ps : List FlatProcess) (source : Source) → Contains (all_drivers_of n p ps) source → IsOf ps n p source
all_are n p [] source h = absurd (Contains-none source h)
all_are n p (q ∷ qs) source h = go (Contains-either (drivers_of n p 0 (targets q)) (all_drivers_of n (suc p) qs) source h) (all_are n (suc p) qs source)
  where
    go : Contains (drivers_of n p 0 (targets q)) source ⊎ Contains (all_drivers_of n (suc p) qs) source → (Contains (all_drivers_of n (suc p) qs) source → IsOf qs n (suc p) source) → IsOf (q ∷ qs) n p source
    go (inl h) more =
        let r = drivers_are n p 0 (targets q) source h in
        record { offset = 0; place = r.offset; there = r.there; net_is = r.net_is; source_is = r.source_is ∙ (λ i. Driver (add_none p i) (none_add r.offset i)) }
      where
        add_none : (p : ℕ) → p ≡ p + 0
        add_none p = omega arith

        none_add : (k : ℕ) → 0 + k ≡ k
        none_add k = omega arith
    go (inr h) more =
        let r = more h in
        record { offset = suc r.offset; place = r.place; there = r.there; net_is = r.net_is; source_is = r.source_is ∙ ap (λ (x : ℕ). Driver x r.place) (omega arith) }

all_among : (n p : ℕ) (ps : List FlatProcess) (i place : ℕ) → place < length (targets (slice_index_or ps i flat.no_flat_process)) → slice_index (targets (slice_index_or ps i flat.no_flat_process)) place ≡ n
    → Contains (all_drivers_of n p ps) (Driver (p + i) place)
all_among n p [] i place l e = absurd (omega arith)
all_among n p (q ∷ qs) zero place l e =
    Contains-append_left (drivers_of n p 0 (targets q)) (all_drivers_of n (suc p) qs) (Driver (p + 0) place)
    (subst (λ (x : ℕ). Contains (drivers_of n p 0 (targets q)) (Driver x place)) (omega arith)
    (subst (λ (x : ℕ). Contains (drivers_of n p 0 (targets q)) (Driver p x)) (omega arith) (is_among n p 0 (targets q) place l e)))
all_among n p (q ∷ qs) (suc i) place l e =
    Contains-append_right (drivers_of n p 0 (targets q)) (all_drivers_of n (suc p) qs) (Driver (p + suc i) place)
    (subst (λ (x : ℕ). Contains (all_drivers_of n (suc p) qs) (Driver x place)) (omega arith) (all_among n (suc p) qs i place l e))

-- ---- the idle ports among them

idle_values : (vs : List ℕ) (source : Source) → Contains (map Idle vs) source → (v : ℕ) × Contains vs v × (source ≡ Idle v)
idle_values [] source h = absurd (Contains-none source h)
idle_values (v ∷ vs) source (zero, l, at) = (v, Contains-first v vs, sym at)
idle_values (v ∷ vs) source (suc k, l, at) = let (w, h, e) = idle_values vs source (k, omega arith, at) in (w, Contains-rest v w vs h, e)

-- ---- of a net

module _ (net : FlatNetlist) (n : ℕ) where
  abbrev drivers : List Source
  drivers = all_drivers_of n 0 net.processes

  abbrev idle : List ℕ
  idle = slice_index_or net.idle n []

  pub source_is_driver : (p place : ℕ) → Contains (flat_sources net n) (Driver p place) → (place < length (targets (flat.process_at net p))) × (slice_index (targets (flat.process_at net p)) place ≡ n)
  source_is_driver p place h = go (Contains-either drivers (map Idle idle) (Driver p place) h)
    where
      go : Contains drivers (Driver p place) ⊎ Contains (map Idle idle) (Driver p place) → (place < length (targets (flat.process_at net p))) × (slice_index (targets (flat.process_at net p)) place ≡ n)
      go (inl d) =
          let r = all_are n 0 net.processes (Driver p place) d in
          let a : r.offset ≡ p = (let e = r.source_is in let f : 0 + r.offset ≡ p = cc in omega arith) in
          let b : r.place ≡ place = (let e = r.source_is in cc) in
          let l = subst (λ (x : ℕ). x < length (targets (slice_index_or net.processes r.offset flat.no_flat_process))) b r.there in
          let m = subst (λ (x : ℕ). slice_index (targets (slice_index_or net.processes r.offset flat.no_flat_process)) x ≡ n) b r.net_is in
          (subst (λ (x : ℕ). place < length (targets (flat.process_at net x))) a l, subst (λ (x : ℕ). slice_index (targets (flat.process_at net x)) place ≡ n) a m)
      go (inr i) = let (v, c, e) = idle_values idle (Driver p place) i in absurd cc

  pub driver_is_source : (p place : ℕ) → place < length (targets (flat.process_at net p)) → slice_index (targets (flat.process_at net p)) place ≡ n → Contains (flat_sources net n) (Driver p place)
  driver_is_source p place l e =
      Contains-append_left drivers (map Idle idle) (Driver p place)
      (subst (λ (x : ℕ). Contains drivers (Driver x place)) (omega arith) (all_among n 0 net.processes p place l e))

  pub source_is_idle : (v : ℕ) → Contains (flat_sources net n) (Idle v) → Contains idle v
  source_is_idle v h = go (Contains-either drivers (map Idle idle) (Idle v) h)
    where
      go : Contains drivers (Idle v) ⊎ Contains (map Idle idle) (Idle v) → Contains idle v
      go (inl d) = let r = all_are n 0 net.processes (Idle v) d in let e = r.source_is in absurd cc
      go (inr i) = let (w, c, e) = idle_values idle (Idle v) i in let k : w ≡ v = cc in subst (λ (x : ℕ). Contains idle x) k c
