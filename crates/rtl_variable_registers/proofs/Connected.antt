-- A netlist whose variables are kept is connected: the nets that there were have the sources that they had, and the net of
-- each kept element has one, its driver.
use Rattle.std.proofs.Common.{◌≡◌, ℕ, zero, suc, ◌+◌, ◌-◌, ◌<◌, ◌≤◌, Bool, true, false, cond, ◌==◌, List, [], ◌∷◌, ◌++◌, length, map, replicate, flat_map, take, slice_index, slice_index_or}
use Rattle.std.proofs.Common.{refl, sym, ap, ◌∙◌, subst, arith, ◌⊎◌, inl, inr, All, Contains}
use Rattle.std.proofs.lemmas.Bool.{cases_lt, cases_eq, eq-eqb}
use Rattle.std.proofs.lemmas.List.{append-nil, length-map, length-append, map-append, get_or_append_left, get_or-append_right}
use Rattle.std.proofs.lemmas.List.Elements.{All-head, All-tail, All-contains}
use Rattle.std.proofs.lemmas.Option.{slice_get_within}
use Rattle.rtl_model.specs.bodies.Types.{ElementType, nine_valued, HasType}
use Rattle.rtl_model.specs.nets.CoreNetlist.{core_resolve}
use Rattle.rtl_model.specs.nets.FlatNetlist.{FlatDriver, FlatProcess, FlatNetlist, ProcessInRange, DriverInRange, IsInRange, targets, starts, drivers_of, all_drivers_of, flat_sources, no_flat_process, process_at}
use Rattle.rtl_model.specs.nets.Wiring.{IsConnected}
use Rattle.rtl_model.specs.simulation.Cycle.{source_value}
use Rattle.rtl_model.specs.simulation.Netlist.{Source, Driver, Idle}
use Rattle.rtl_model.proofs.basics.Lists.{Contains-none, Contains-first}
use Rattle.rtl_variable_registers.specs.Nets.{kept_processes, kept_flat, first_net}
use Rattle.rtl_variable_registers.specs.Processes.{kept_elements, kept_starts, kept_types, drivers_from, kept_process}
use Rattle.rtl_variable_registers.proofs.InRange.{get_left, length_kept_starts, no_idle}
use Rattle.rtl_variable_registers.proofs.Putting.{eqb_other, Contains-more}
use Rattle.rtl_variable_registers.proofs.Staying.{drivers_are}
use Rattle.rtl_variable_registers.proofs.Values.{on_both}

-- ---- drivers of a net

drivers_append : (n p place : ℕ) (xs ys : List ℕ) → drivers_of n p place (xs ++ ys) ≡ drivers_of n p place xs ++ drivers_of n p (place + length xs) ys
drivers_append n p place [] ys = let s : place ≡ place + 0 = omega arith in ap (λ (k : ℕ). drivers_of n p k ys) s
drivers_append n p place (x ∷ xs) ys = go (x == n) (drivers_append n p (suc place) xs ys)
  where
    go : (b : Bool) → drivers_of n p (suc place) (xs ++ ys) ≡ drivers_of n p (suc place) xs ++ drivers_of n p (suc place + length xs) ys
        → cond b (Driver p place ∷ drivers_of n p (suc place) (xs ++ ys)) (drivers_of n p (suc place) (xs ++ ys))
        ≡ cond b (Driver p place ∷ drivers_of n p (suc place) xs) (drivers_of n p (suc place) xs) ++ drivers_of n p (place + suc (length xs)) ys
    go true h = let s : suc place + length xs ≡ place + suc (length xs) = omega arith in
        ap (λ ds. Driver p place ∷ ds) (h ∙ ap (λ (k : ℕ). drivers_of n p (suc place) xs ++ drivers_of n p k ys) s)
    go false h = let s : suc place + length xs ≡ place + suc (length xs) = omega arith in h ∙ ap (λ (k : ℕ). drivers_of n p (suc place) xs ++ drivers_of n p k ys) s

no_drivers : (n p place : ℕ) (xs : List ℕ) → ((x : ℕ) → Contains xs x → x ≡ n → ⊥) → drivers_of n p place xs ≡ []
no_drivers n p place [] h = refl
no_drivers n p place (x ∷ xs) h = rw (eqb_other x n (h x (Contains-first x xs))) (no_drivers n p (suc place) xs (λ y c. h y (Contains-more x xs y c)))

abbrev nth : List FlatProcess → ℕ → FlatProcess
nth ps k = slice_index_or ps k no_flat_process

abbrev pub nets_of : List FlatDriver → List ℕ
nets_of ds = map (λ (d : FlatDriver). d.net) ds

-- the drivers of nets in a row
row_other : (n p place f : ℕ) (vs : List ℕ) → (n < f) ⊎ (f + length vs ≤ n) → drivers_of n p place (nets_of (drivers_from f vs)) ≡ []
row_other n p place f [] h = refl
row_other n p place f (v ∷ vs) h = rw (eqb_other f n (apart h)) (row_other n p (suc place) (suc f) vs (later h))
  where
    apart : (n < f) ⊎ (f + suc (length vs) ≤ n) → f ≡ n → ⊥
    apart (inl l) s = omega arith
    apart (inr l) s = omega arith

    later : (n < f) ⊎ (f + suc (length vs) ≤ n) → (n < suc f) ⊎ (suc f + length vs ≤ n)
    later (inl l) = inl (omega arith)
    later (inr l) = inr (omega arith)

row_one : (n p place f : ℕ) (vs : List ℕ) → f ≤ n → n < f + length vs → drivers_of n p place (nets_of (drivers_from f vs)) ≡ Driver p (place + (n - f)) ∷ []
row_one n p place f [] a b = absurd (omega arith)
row_one n p place f (v ∷ vs) a b = go (cases_eq f n) (λ l m. row_one n p (suc place) (suc f) vs l m)
  where
    go : (f ≡ n) ⊎ (f ≡ n → ⊥) → (suc f ≤ n → n < suc f + length vs → drivers_of n p (suc place) (nets_of (drivers_from (suc f) vs)) ≡ Driver p (suc place + (n - suc f)) ∷ [])
        → drivers_of n p place (nets_of (drivers_from f (v ∷ vs))) ≡ Driver p (place + (n - f)) ∷ []
    go (inl e) rest =
        let s : place ≡ place + (n - f) = omega arith in
        rw (eq-eqb f n e) (on_both (λ (k : ℕ) ds. Driver p k ∷ ds) s (row_other n p (suc place) (suc f) vs (inl (omega arith))))
    go (inr e) rest =
        let l : suc f ≤ n = omega arith in
        let s : suc place + (n - suc f) ≡ place + (n - f) = omega arith in
        rw (eqb_other f n e) (rest l (omega arith) ∙ ap (λ (k : ℕ). Driver p k ∷ []) s)

pub kept_targets : (f : ℕ) (p : FlatProcess) → targets (kept_process f p) ≡ targets p ++ nets_of (drivers_from f (kept_starts p))
kept_targets f p = ap nets_of (drivers_are f p) ∙ map-append (λ (d : FlatDriver). d.net) p.drivers (drivers_from f (kept_starts p))

pub starts_of : (f : ℕ) (p : FlatProcess) → starts (kept_process f p) ≡ starts p ++ map (λ (d : FlatDriver). d.start) (drivers_from f (kept_starts p))
starts_of f p = ap (map (λ (d : FlatDriver). d.start)) (drivers_are f p) ∙ map-append (λ (d : FlatDriver). d.start) p.drivers (drivers_from f (kept_starts p))

process_sources : (n k f : ℕ) (p : FlatProcess) → drivers_of n k 0 (targets (kept_process f p)) ≡ drivers_of n k 0 (targets p) ++ drivers_of n k (length p.drivers) (nets_of (drivers_from f (kept_starts p)))
process_sources n k f p =
    let s : 0 + length (targets p) ≡ length p.drivers = omega (arith, length-map p.drivers (λ (d : FlatDriver). d.net)) in
    ap (drivers_of n k 0) (kept_targets f p) ∙ drivers_append n k 0 (targets p) (nets_of (drivers_from f (kept_starts p)))
    ∙ ap (λ (j : ℕ). drivers_of n k 0 (targets p) ++ drivers_of n k j (nets_of (drivers_from f (kept_starts p)))) s

-- ---- nets that there were, and those behind all kept ones

old_sources : (n k f : ℕ) (ps : List FlatProcess) → (n < f) ⊎ (f + length (flat_map kept_elements ps) ≤ n) → all_drivers_of n k (kept_processes f ps) ≡ all_drivers_of n k ps
old_sources n k f [] h = refl
old_sources n k f (p ∷ ps) h =
    on_both (λ xs ys. xs ++ ys)
    (process_sources n k f p ∙ ap (λ ds. drivers_of n k 0 (targets p) ++ ds) (row_other n k (length p.drivers) f (kept_starts p) (own h)) ∙ append-nil (drivers_of n k 0 (targets p)))
    (old_sources n (suc k) (f + length (kept_elements p)) ps (later h))
  where
    own : (n < f) ⊎ (f + length (kept_elements p ++ flat_map kept_elements ps) ≤ n) → (n < f) ⊎ (f + length (kept_starts p) ≤ n)
    own (inl l) = inl l
    own (inr l) = inr (omega (arith, length_kept_starts p, length-append (kept_elements p) (flat_map kept_elements ps)))

    later : (n < f) ⊎ (f + length (kept_elements p ++ flat_map kept_elements ps) ≤ n) → (n < f + length (kept_elements p)) ⊎ (f + length (kept_elements p) + length (flat_map kept_elements ps) ≤ n)
    later (inl l) = inl (omega arith)
    later (inr l) = inr (omega (arith, length-append (kept_elements p) (flat_map kept_elements ps)))

module _ (types : List ElementType) where
  target_other : (n : ℕ) → length types ≤ n → (p : FlatProcess) → ProcessInRange types p → (x : ℕ) → Contains (targets p) x → x ≡ n → ⊥
  target_other n l p h x c s = go p.drivers h.drivers c
    where
      go : (ds : List FlatDriver) → All (DriverInRange types) ds → Contains (nets_of ds) x → ⊥
      go [] a c = Contains-none x c
      go (d ∷ ds) a (zero, i, at) = let t = All-head (DriverInRange types) d ds a in let w = slice_get_within types d.net t.0 t.1 in let e : d.net ≡ x = at in omega arith
      go (d ∷ ds) a (suc j, i, at) = go ds (All-tail (DriverInRange types) d ds a) (j, omega arith, at)

  none_driven : (n k : ℕ) → length types ≤ n → (ps : List FlatProcess) → All (ProcessInRange types) ps → all_drivers_of n k ps ≡ []
  none_driven n k l [] h = refl
  none_driven n k l (p ∷ ps) h =
      on_both (λ (xs ys : List Source). xs ++ ys) (no_drivers n k 0 (targets p) (target_other n l p (All-head (ProcessInRange types) p ps h)))
      (none_driven n (suc k) l ps (All-tail (ProcessInRange types) p ps h))

  -- ---- the net of a kept element

  -- the one at this place of those of the process k of these
  one_source : (n q f : ℕ) (ps : List FlatProcess) → All (ProcessInRange types) ps → length types ≤ f → (k j : ℕ) → k < length ps → j < length (kept_elements (nth ps k))
      → n ≡ f + length (flat_map kept_elements (take k ps)) + j → all_drivers_of n q (kept_processes f ps) ≡ Driver (q + k) (length (nth ps k).drivers + j) ∷ []
  one_source n q f [] h t k j a b e = absurd (omega arith)
  one_source n q f (p ∷ ps) h t zero j a b e =
      let s : q ≡ q + 0 = omega arith in
      let i : n - f ≡ j = omega arith in
      on_both (λ (xs ys : List Source). xs ++ ys)
      (process_sources n q f p
      ∙ on_both (λ (xs ys : List Source). xs ++ ys) (no_drivers n q 0 (targets p) (target_other n (omega arith) p (All-head (ProcessInRange types) p ps h)))
      (row_one n q (length p.drivers) f (kept_starts p) (omega arith) (omega (arith, length_kept_starts p)))
      ∙ on_both (λ (x y : ℕ). Driver x (length p.drivers + y) ∷ []) s i)
      (old_sources n (suc q) (f + length (kept_elements p)) ps (inl (omega arith)) ∙ none_driven n (suc q) (omega arith) ps (All-tail (ProcessInRange types) p ps h))
  one_source n q f (p ∷ ps) h t (suc k) j a b e =
      let s : suc q + k ≡ q + suc k = omega arith in
      let i : n ≡ f + length (kept_elements p) + length (flat_map kept_elements (take k ps)) + j = omega (arith, length-append (kept_elements p) (flat_map kept_elements (take k ps))) in
      on_both (λ (xs ys : List Source). xs ++ ys)
      (process_sources n q f p ∙ on_both (λ (xs ys : List Source). xs ++ ys) (no_drivers n q 0 (targets p) (target_other n (omega arith) p (All-head (ProcessInRange types) p ps h)))
      (row_other n q (length p.drivers) f (kept_starts p) (inr (omega (arith, length_kept_starts p)))))
      (one_source n (suc q) (f + length (kept_elements p)) ps (All-tail (ProcessInRange types) p ps h) (omega arith) k j (omega arith) b i
      ∙ ap (λ (x : ℕ). Driver x (length (nth ps k).drivers + j) ∷ []) s)

row_starts : (f : ℕ) (vs : List ℕ) → map (λ (d : FlatDriver). d.start) (drivers_from f vs) ≡ vs
row_starts f [] = refl
row_starts f (v ∷ vs) = ap (λ xs. v ∷ xs) (row_starts (suc f) vs)

-- its driver starts with what the element does
pub own_start : (f j : ℕ) (p : FlatProcess) → slice_index (starts (kept_process f p)) (length p.drivers + j) ≡ slice_index (kept_starts p) j
own_start f j p =
    let many = length-map p.drivers (λ (d : FlatDriver). d.start) in
    let s : length p.drivers + j - length (starts p) ≡ j = omega arith in
    ap (λ xs. slice_index xs (length p.drivers + j)) (starts_of f p)
    ∙ get_or-append_right (starts p) (map (λ (d : FlatDriver). d.start) (drivers_from f (kept_starts p))) (length (starts p)) (length p.drivers + j) 0 refl (omega arith)
    ∙ on_both slice_index (row_starts f (kept_starts p)) s

starts_at : (f : ℕ) (ps : List FlatProcess) (k : ℕ) → k < length ps
    → slice_index_or (map starts (kept_processes f ps)) k [] ≡ starts (kept_process (f + length (flat_map kept_elements (take k ps))) (nth ps k))
starts_at f [] k l = absurd (omega arith)
starts_at f (p ∷ ps) zero l = let s : f ≡ f + 0 = omega arith in ap (λ (i : ℕ). starts (kept_process i p)) s
starts_at f (p ∷ ps) (suc k) l =
    let s : f + length (kept_elements p) + length (flat_map kept_elements (take k ps)) ≡ f + length (kept_elements p ++ flat_map kept_elements (take k ps)) =
    omega (arith, length-append (kept_elements p) (flat_map kept_elements (take k ps))) in
    starts_at (f + length (kept_elements p)) ps k (omega arith) ∙ ap (λ (i : ℕ). starts (kept_process i (nth ps k))) s

-- and so does its net
pub flat_start : (ps : List FlatProcess) (k j : ℕ) → k < length ps → j < length (kept_elements (nth ps k))
    → slice_index (flat_map kept_starts ps) (length (flat_map kept_elements (take k ps)) + j) ≡ slice_index (kept_starts (nth ps k)) j
flat_start [] k j a b = absurd (omega arith)
flat_start (p ∷ ps) zero j a b = let s : 0 + j ≡ j = omega arith in
    ap (slice_index (kept_starts p ++ flat_map kept_starts ps)) s ∙ get_or_append_left (kept_starts p) (flat_map kept_starts ps) 0 j (omega (arith, length_kept_starts p))
flat_start (p ∷ ps) (suc k) j a b =
    let many = length-append (kept_elements p) (flat_map kept_elements (take k ps)) in
    let s : length (kept_elements p ++ flat_map kept_elements (take k ps)) + j - length (kept_starts p) ≡ length (flat_map kept_elements (take k ps)) + j = omega (arith, length_kept_starts p) in
    get_or-append_right (kept_starts p) (flat_map kept_starts ps) (length (kept_starts p)) (length (kept_elements p ++ flat_map kept_elements (take k ps)) + j) 0 refl (omega (arith, length_kept_starts p))
    ∙ ap (slice_index (flat_map kept_starts ps)) s ∙ flat_start ps k j (omega arith) b

-- a net behind those that there were is one of them, or none
record IsOf (n f : ℕ) (ps : List FlatProcess) : Type 0 where
  process : ℕ
  place : ℕ
  there : process < length ps
  within : place < length (kept_elements (nth ps process))
  net_is : n ≡ f + length (flat_map kept_elements (take process ps)) + place

found : (n f : ℕ) (ps : List FlatProcess) → f ≤ n → n < f + length (flat_map kept_elements ps) → IsOf n f ps
found n f [] a b = absurd (omega arith)
found n f (p ∷ ps) a b = go (cases_lt n (f + length (kept_elements p))) (λ l. found n (f + length (kept_elements p)) ps l (omega (arith, length-append (kept_elements p) (flat_map kept_elements ps))))
  where
    go : (n < f + length (kept_elements p)) ⊎ (f + length (kept_elements p) ≤ n) → (f + length (kept_elements p) ≤ n → IsOf n (f + length (kept_elements p)) ps) → IsOf n f (p ∷ ps)
    go (inl l) rest = record { process = 0; place = n - f; there = omega arith; within = omega arith; net_is = omega arith }
    go (inr l) rest = let r = rest l in record {
      process = suc r.process;
      place = r.place;
      there = omega (arith, r.there);
      within = r.within;
      net_is = omega (arith, r.net_is, length-append (kept_elements p) (flat_map kept_elements (take r.process ps)));
    }

-- ---- what sources hold

values_of_drivers : (rows more : List (List ℕ)) (n k place : ℕ) (xs : List ℕ)
    → ((q : ℕ) → q < place + length xs → slice_index (slice_index_or more k []) q ≡ slice_index (slice_index_or rows k []) q)
    → map (source_value more) (drivers_of n k place xs) ≡ map (source_value rows) (drivers_of n k place xs)
values_of_drivers rows more n k place [] h = refl
values_of_drivers rows more n k place (x ∷ xs) h = go (x == n) (values_of_drivers rows more n k (suc place) xs (λ q l. h q (omega arith)))
  where
    go : (b : Bool) → map (source_value more) (drivers_of n k (suc place) xs) ≡ map (source_value rows) (drivers_of n k (suc place) xs)
        → map (source_value more) (cond b (Driver k place ∷ drivers_of n k (suc place) xs) (drivers_of n k (suc place) xs))
        ≡ map (source_value rows) (cond b (Driver k place ∷ drivers_of n k (suc place) xs) (drivers_of n k (suc place) xs))
    go true r = on_both (λ (v : ℕ) vs. v ∷ vs) (h place (omega arith)) r
    go false r = r

values_of_all : (rows more : List (List ℕ)) (n k f : ℕ) (ps : List FlatProcess)
    → ((i : ℕ) → slice_index_or more (k + i) [] ≡ slice_index_or (map starts (kept_processes f ps)) i [])
    → ((i : ℕ) → slice_index_or rows (k + i) [] ≡ slice_index_or (map starts ps) i [])
    → map (source_value more) (all_drivers_of n k ps) ≡ map (source_value rows) (all_drivers_of n k ps)
values_of_all rows more n k f [] h g = refl
values_of_all rows more n k f (p ∷ ps) h g =
    map-append (source_value more) (drivers_of n k 0 (targets p)) (all_drivers_of n (suc k) ps)
    ∙ on_both (λ (xs ys : List ℕ). xs ++ ys) (values_of_drivers rows more n k 0 (targets p) first)
    (values_of_all rows more n (suc k) (f + length (kept_elements p)) ps (λ i. later more i ∙ h (suc i)) (λ i. later rows i ∙ g (suc i)))
    ∙ sym (map-append (source_value rows) (drivers_of n k 0 (targets p)) (all_drivers_of n (suc k) ps))
  where
    here : (xs : List (List ℕ)) → slice_index_or xs k [] ≡ slice_index_or xs (k + 0) []
    here xs = let s : k ≡ k + 0 = omega arith in ap (λ (j : ℕ). slice_index_or xs j []) s

    later : (xs : List (List ℕ)) (i : ℕ) → slice_index_or xs (suc k + i) [] ≡ slice_index_or xs (k + suc i) []
    later xs i = let s : suc k + i ≡ k + suc i = omega arith in ap (λ (j : ℕ). slice_index_or xs j []) s

    first : (q : ℕ) → q < 0 + length (targets p) → slice_index (slice_index_or more k []) q ≡ slice_index (slice_index_or rows k []) q
    first q l =
        let many = length-map p.drivers (λ (d : FlatDriver). d.start) in
        let nets = length-map p.drivers (λ (d : FlatDriver). d.net) in
        ap (λ xs. slice_index xs q) (here more ∙ h 0 ∙ starts_of f p)
        ∙ get_or_append_left (starts p) (map (λ (d : FlatDriver). d.start) (drivers_from f (kept_starts p))) 0 q (omega arith)
        ∙ sym (ap (λ xs. slice_index xs q) (here rows ∙ g 0))

-- ---- the netlist

abbrev none_idle : FlatNetlist → List (List ℕ)
none_idle net = replicate (length (flat_map kept_elements net.processes)) []

pub same_sources : (net : FlatNetlist) → IsInRange net → (n : ℕ) → n < length net.types → flat_sources (kept_flat net) n ≡ flat_sources net n
same_sources net r n l =
    on_both (λ (xs ys : List Source). xs ++ ys) (old_sources n 0 (length net.types) net.processes (inl l))
    (ap (map Idle) (get_or_append_left net.idle (none_idle net) [] n (omega (arith, r.each_has_idle))))

new_idle : (net : FlatNetlist) → IsInRange net → (n : ℕ) → length net.types ≤ n → slice_index_or (net.idle ++ none_idle net) n [] ≡ []
new_idle net r n l =
    get_or-append_right net.idle (none_idle net) (length net.idle) n [] refl (omega (arith, r.each_has_idle))
    ∙ no_idle (length (flat_map kept_elements net.processes)) (n - length net.idle)

-- the net of an element has its driver, and starts with what that does
pub new_source : (net : FlatNetlist) → IsInRange net → (k j : ℕ) → k < length net.processes → j < length (kept_elements (process_at net k))
    → flat_sources (kept_flat net) (first_net net k + j) ≡ Driver k (length (process_at net k).drivers + j) ∷ []
new_source net r k j a b =
    let n = length net.types + length (flat_map kept_elements (take k net.processes)) + j in
    let s : 0 + k ≡ k = omega arith in
    on_both (λ (xs ys : List Source). xs ++ ys)
    (one_source net.types n 0 (length net.types) net.processes r.processes (omega arith) k j a b refl ∙ ap (λ (x : ℕ). Driver x (length (process_at net k).drivers + j) ∷ []) s)
    (ap (map Idle) (new_idle net r n (omega arith)))

pub new_start : (net : FlatNetlist) → IsInRange net → (k j : ℕ) → k < length net.processes → j < length (kept_elements (process_at net k))
    → slice_index (kept_flat net).start (first_net net k + j) ≡ slice_index (kept_starts (process_at net k)) j
new_start net r k j a b =
    let n = length net.types + length (flat_map kept_elements (take k net.processes)) + j in
    let s : n - length net.start ≡ length (flat_map kept_elements (take k net.processes)) + j = omega (arith, r.each_starts) in
    get_or-append_right net.start (flat_map kept_starts net.processes) (length net.start) n 0 refl (omega (arith, r.each_starts))
    ∙ ap (slice_index (flat_map kept_starts net.processes)) s ∙ flat_start net.processes k j a b

module _ (net : FlatNetlist) (r : IsInRange net) (c : IsConnected net) where
  abbrev kept : FlatNetlist
  kept = kept_flat net

  abbrev IsNew : ℕ → Type 0
  IsNew n = (flat_sources kept n ≡ []) ⊎ ((q place : ℕ) × (flat_sources kept n ≡ Driver q place ∷ []) × (slice_index kept.start n ≡ source_value (map starts kept.processes) (Driver q place)))

  new_sources : (n : ℕ) → length net.types ≤ n → IsNew n
  new_sources n l = go (cases_lt n (length net.types + length (flat_map kept_elements net.processes)))
    where
      go : (n < length net.types + length (flat_map kept_elements net.processes)) ⊎ (length net.types + length (flat_map kept_elements net.processes) ≤ n) → IsNew n
      go (inl m) =
          let o = found n (length net.types) net.processes l m in
          inr (
            o.process,
            length (process_at net o.process).drivers + o.place,
            ap (flat_sources kept) o.net_is ∙ new_source net r o.process o.place o.there o.within,
            ap (slice_index kept.start) o.net_is ∙ new_start net r o.process o.place o.there o.within
                ∙ sym (ap (λ xs. slice_index xs (length (process_at net o.process).drivers + o.place)) (starts_at (length net.types) net.processes o.process o.there)
                ∙ own_start (first_net net o.process) o.place (process_at net o.process)),
          )
      go (inr m) =
          inl (on_both (λ (xs ys : List Source). xs ++ ys) (old_sources n 0 (length net.types) net.processes (inr m) ∙ none_driven net.types n 0 l net.processes r.processes) (ap (map Idle) (new_idle net r n l)))

  input_below : (n : ℕ) → Contains net.inputs n → n < length net.types
  input_below n h = slice_get_within net.types n nine_valued (All-contains (HasType net.types nine_valued) net.inputs n r.inputs h)

  values_same : (n : ℕ) → map (source_value (map starts kept.processes)) (flat_sources net n) ≡ map (source_value (map starts net.processes)) (flat_sources net n)
  values_same n =
      let zero_more = λ (i : ℕ). let s : 0 + i ≡ i = omega arith in ap (λ (j : ℕ). slice_index_or (map starts kept.processes) j []) s in
      let zero_rows = λ (i : ℕ). let s : 0 + i ≡ i = omega arith in ap (λ (j : ℕ). slice_index_or (map starts net.processes) j []) s in
      map-append (source_value (map starts kept.processes)) (all_drivers_of n 0 net.processes) (map Idle (slice_index_or net.idle n []))
      ∙ on_both (λ (xs ys : List ℕ). xs ++ ys)
      (values_of_all (map starts net.processes) (map starts kept.processes) n 0 (length net.types) net.processes zero_more zero_rows)
      (idle_same (slice_index_or net.idle n []))
      ∙ sym (map-append (source_value (map starts net.processes)) (all_drivers_of n 0 net.processes) (map Idle (slice_index_or net.idle n [])))
    where
      idle_same : (vs : List ℕ) → map (source_value (map starts kept.processes)) (map Idle vs) ≡ map (source_value (map starts net.processes)) (map Idle vs)
      idle_same [] = refl
      idle_same (v ∷ vs) = ap (λ xs. v ∷ xs) (idle_same vs)

  nets_start : (n : ℕ) (source : Source) → Contains (flat_sources kept n) source
      → slice_index kept.start n ≡ core_resolve (map (source_value (map starts kept.processes)) (flat_sources kept n))
  nets_start n source h = go (cases_lt n (length net.types))
    where
      of_new : IsNew n → slice_index kept.start n ≡ core_resolve (map (source_value (map starts kept.processes)) (flat_sources kept n))
      of_new (inl e) = absurd (Contains-none source (subst (λ xs. Contains xs source) e h))
      of_new (inr x) = x.3 ∙ sym (ap (λ xs. core_resolve (map (source_value (map starts kept.processes)) xs)) x.2)

      go : (n < length net.types) ⊎ (length net.types ≤ n) → slice_index kept.start n ≡ core_resolve (map (source_value (map starts kept.processes)) (flat_sources kept n))
      go (inl l) =
          get_or_append_left net.start (flat_map kept_starts net.processes) 0 n (omega (arith, r.each_starts))
          ∙ c.nets_start n source (subst (λ xs. Contains xs source) (same_sources net r n l) h)
          ∙ sym (ap core_resolve (ap (map (source_value (map starts kept.processes))) (same_sources net r n l) ∙ values_same n))
      go (inr l) = of_new (new_sources n l)

  shared : (n : ℕ) → 2 ≤ length (flat_sources kept n) → HasType kept.types nine_valued n
  shared n h = go (cases_lt n (length net.types))
    where
      of_new : IsNew n → HasType kept.types nine_valued n
      of_new (inl e) = let m = ap length e in absurd (omega arith)
      of_new (inr x) = let m = ap length x.2 in absurd (omega arith)

      go : (n < length net.types) ⊎ (length net.types ≤ n) → HasType kept.types nine_valued n
      go (inl l) = get_left net.types (flat_map kept_types net.processes) n nine_valued (c.shared_are_resolved n (subst (λ xs. 2 ≤ length xs) (same_sources net r n l) h))
      go (inr l) = of_new (new_sources n l)

  pub kept_connected : IsConnected (kept_flat net)
  kept_connected = record {
    inputs_have_no_source = λ n h. same_sources net r n (input_below n h) ∙ c.inputs_have_no_source n h;
    nets_start = nets_start;
    shared_are_resolved = shared;
  }
