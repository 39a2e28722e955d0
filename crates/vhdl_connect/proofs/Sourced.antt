-- What the table of values holds is what the sources of a flat netlist start with.
use Rattle.std.proofs.Common.{◌≡◌, ℕ, suc, ◌<◌, Bool, true, false, ◌==◌, if◌then◌else◌, List, [], ◌∷◌, ◌++◌, length, map, refl, sym, ap, ◌∙◌, arith}
use Rattle.std.specs.Prelude.{slice_index, slice_index_or}
use Rattle.std.proofs.lemmas.List.{append_assoc, map-append}
use Rattle.std.proofs.lemmas.List.FromFn.{get_or-map-range_with_len}
use Rattle.rtl_model.specs.bodies.Types.{ElementType}
use Rattle.rtl_model.specs.nets.FlatNetlist.{FlatDriver, FlatNetlist, starts, drivers_of, all_drivers_of, flat_sources}
use Rattle.rtl_model.specs.simulation.Netlist.{Source, Driver, Idle}
use Rattle.rtl_model.specs.simulation.Cycle.{source_value}
use Rattle.rtl_net.specs.declared.building.IdlePort.{IdlePort}
use Rattle.rtl_net.specs.declared.process.Driver as d
use Rattle.rtl_net.specs.declared.process.Process.{Process}
use Rattle.rtl_net.specs.Nets.{driver_view, process_view}
use Rattle.rtl_net.specs.Parts.{idle_at}
use Rattle.vhdl_elab_rules.specs.Wiring.{start_by, start_of}
use Rattle.vhdl_connect.specs.Held.{drivers_hold, processes_hold, idle_hold, start_with, with_defaults}

-- ---- places behind others

behind : {X : Type 0} (pre : List X) (y : X) (ys : List X) (e : X) → slice_index_or (pre ++ y ∷ ys) (length pre) e ≡ y
behind [] y ys e = refl
behind (x ∷ pre) y ys e = behind pre y ys e

one-longer : {X : Type 0} (pre : List X) (y : X) → length (pre ++ y ∷ []) ≡ suc (length pre)
one-longer [] y = refl
one-longer (x ∷ pre) y = ap suc (one-longer pre y)

-- ---- drivers

abbrev driver-nets : List d.Driver → List ℕ
driver-nets ds = map (λ (x : FlatDriver). x.net) (map driver_view ds)

abbrev driver-starts : List d.Driver → List ℕ
driver-starts ds = map (λ (x : FlatDriver). x.start) (map driver_view ds)

drivers-held : (all : List (List ℕ)) (n p : ℕ) (pre : List ℕ) (ds : List d.Driver) → slice_index_or all p [] ≡ pre ++ driver-starts ds
    → map (source_value all) (drivers_of n p (length pre) (driver-nets ds)) ≡ drivers_hold ds n
drivers-held all n p pre [] h = refl
drivers-held all n p pre (x ∷ xs) h =
    go (x.net == n)
    (ap (λ k. map (source_value all) (drivers_of n p k (driver-nets xs))) (sym (one-longer pre x.start))
    ∙ drivers-held all n p (pre ++ x.start ∷ []) xs (h ∙ sym (append_assoc pre (x.start ∷ []) (driver-starts xs))))
  where
    here : slice_index (slice_index_or all p []) (length pre) ≡ x.start
    here = ap (λ vs. slice_index vs (length pre)) h ∙ behind pre x.start (driver-starts xs) 0

    go : (b : Bool) → map (source_value all) (drivers_of n p (suc (length pre)) (driver-nets xs)) ≡ drivers_hold xs n
        → map (source_value all) (if b then Driver p (length pre) ∷ drivers_of n p (suc (length pre)) (driver-nets xs) else drivers_of n p (suc (length pre)) (driver-nets xs))
        ≡ (if b then x.start ∷ [] else []) ++ drivers_hold xs n
    go true rest = (λ i. here i ∷ rest i)
    go false rest = rest

processes-held : (all pre : List (List ℕ)) (n : ℕ) (qs : List Process) → all ≡ pre ++ map starts (map process_view qs)
    → map (source_value all) (all_drivers_of n (length pre) (map process_view qs)) ≡ processes_hold qs n
processes-held all pre n [] h = refl
processes-held all pre n (q ∷ qs) h =
    let first =
    drivers-held all n (length pre) [] q.drives.items
    (ap (λ xs. slice_index_or xs (length pre) []) h ∙ behind pre (driver-starts q.drives.items) (map starts (map process_view qs)) []) in
    let rest =
    ap (λ k. map (source_value all) (all_drivers_of n k (map process_view qs))) (sym (one-longer pre (driver-starts q.drives.items)))
    ∙ processes-held all (pre ++ driver-starts q.drives.items ∷ []) n qs (h ∙ sym (append_assoc pre (driver-starts q.drives.items ∷ []) (map starts (map process_view qs)))) in
    map-append (source_value all) (drivers_of n (length pre) 0 (driver-nets q.drives.items)) (all_drivers_of n (suc (length pre)) (map process_view qs))
    ∙ (λ i. first i ++ rest i)

-- ---- idle ports

idle-held : (idle : List IdlePort) (n : ℕ) → idle_at idle n ≡ idle_hold idle n
idle-held [] n = refl
idle-held (p ∷ ps) n = go (p.net == n) (idle-held ps n)
  where
    go : (b : Bool) → idle_at ps n ≡ idle_hold ps n → (if b then p.start ∷ idle_at ps n else idle_at ps n) ≡ (if b then p.start ∷ [] else []) ++ idle_hold ps n
    go true h = ap (λ vs. p.start ∷ vs) h
    go false h = h

idle-values : (all : List (List ℕ)) (vs : List ℕ) → map (source_value all) (map Idle vs) ≡ vs
idle-values all [] = refl
idle-values all (v ∷ vs) = ap (λ us. v ∷ us) (idle-values all vs)

-- ---- nets

start-held : (net : FlatNetlist) (default : ℕ) (ss : List Source) → start_by net default ss ≡ start_with default (map (source_value (map starts net.processes)) ss)
start-held net default [] = refl
start-held net default (s ∷ ss) = refl

module _ (types : List ElementType) (inputs defaults : List ℕ) (idle : List IdlePort) (processes : List Process) (n : ℕ) (l : n < length defaults) where
  -- what the sources of a net hold before a simulation begins
  pub sources_hold : map (source_value (map starts (map process_view processes))) (flat_sources (with_defaults types inputs defaults idle processes) n) ≡ processes_hold processes n ++ idle_hold idle n
  sources_hold =
      let all = map starts (map process_view processes) in
      let vs = slice_index_or (with_defaults types inputs defaults idle processes).idle n [] in
      map-append (source_value all) (all_drivers_of n 0 (map process_view processes)) (map Idle vs)
      ∙ (λ i. processes-held all [] n processes refl i ++ idle-values all vs i)
      ∙ ap (λ us. processes_hold processes n ++ us) (get_or-map-range_with_len (idle_at idle) 0 (length defaults) n n [] l (omega arith) ∙ idle-held idle n)

  pub nets_start : start_of (with_defaults types inputs defaults idle processes) n ≡ start_with (slice_index defaults n) (processes_hold processes n ++ idle_hold idle n)
  nets_start =
      let net = with_defaults types inputs defaults idle processes in
      start-held net (slice_index defaults n) (flat_sources net n) ∙ ap (start_with (slice_index defaults n)) sources_hold
