-- The runs begin beside each other, and what Update and Inputs give the old nets is the same.
use Rattle.std.proofs.Common.{◌≡◌, ℕ, ◌+◌, ◌<◌, ◌≤◌, Bool, true, cond, not, ◌==◌, List, [], ◌∷◌, length, map, flat_map, take, slice_index, slice_index_or, Option, None, refl, sym, ap, ◌∙◌, subst, arith, All, Contains}
use Rattle.std.specs.List.{list_any}
use Rattle.std.proofs.lemmas.List.{length-map, length-append, map-append, take_at, get_or-take}
use Rattle.std.proofs.lemmas.List.Elements.{All-head, All-tail, All-contains}
use Rattle.rtl_model.specs.basics.Valuations.{has_event}
use Rattle.rtl_model.specs.bodies.Types.{ElementType}
use Rattle.rtl_model.specs.nets.CoreNetlist.{core_process, core_netlist, core_resolve}
use Rattle.rtl_model.specs.nets.FlatNetlist.{FlatDriver, FlatProcess, FlatNetlist, ProcessInRange, IsInRange, targets, starts, flat_sources, no_flat_process}
use Rattle.rtl_model.specs.simulation.Cycle.{source_value, net_value, net_values, with_inputs}
use Rattle.rtl_model.specs.simulation.Netlist.{Process, Source, Driver, Idle, sources_of}
use Rattle.rtl_model.proofs.basics.Lists.{Contains-first}
use Rattle.rtl_model.proofs.nets.Sources.{sources-core_net, source_is_driver}
use Rattle.rtl_variable_registers.specs.Beside.{old_rows}
use Rattle.rtl_variable_registers.specs.Nets.{kept_processes, kept_flat}
use Rattle.rtl_variable_registers.specs.Processes.{kept_elements, kept_starts, kept_types, drivers_from}
use Rattle.rtl_variable_registers.proofs.Connected.{nets_of, kept_targets, starts_of, same_sources}
use Rattle.rtl_variable_registers.proofs.Putting.{Contains-more}
use Rattle.rtl_variable_registers.proofs.Rows.{drivers_at, old_rows_at, map_taken, any_same}
use Rattle.rtl_variable_registers.proofs.Staying.{wakes_stay}
use Rattle.rtl_variable_registers.proofs.Values.{on_both}

-- ---- rows at the start

module _ (wide : Bool) (inputs : List ℕ) where
  abbrev cores : List FlatProcess → List Process
  cores ps = map (core_process wide inputs) ps

  pub drivers_begin : (f : ℕ) (ps : List FlatProcess) → map (λ (q : Process). q.starts) (cores ps) ≡ old_rows ps (map (λ (q : Process). q.starts) (cores (kept_processes f ps)))
  drivers_begin f [] = refl
  drivers_begin f (p ∷ ps) =
      on_both (λ x (xs : List (List ℕ)). x ∷ xs)
      (sym (ap (take (length p.drivers)) (starts_of f p)
      ∙ take_at (starts p) (map (λ (d : FlatDriver). d.start) (drivers_from f (kept_starts p))) (length p.drivers) (length-map p.drivers (λ (d : FlatDriver). d.start))))
      (drivers_begin (f + length (kept_elements p)) ps)

  abbrev nones : List ℕ → List (Option ℕ)
  nones ns = map {B = Option ℕ} (λ n. None) ns

  pub pending_begins : (f : ℕ) (ps : List FlatProcess) → map (λ (q : Process). nones q.drives) (cores ps) ≡ old_rows ps (map (λ (q : Process). nones q.drives) (cores (kept_processes f ps)))
  pending_begins f [] = refl
  pending_begins f (p ∷ ps) =
      let more = nets_of (drivers_from f (kept_starts p)) in
      on_both (λ x (xs : List (List (Option ℕ))). x ∷ xs)
      (sym (ap (λ ns. take (length p.drivers) (nones ns)) (kept_targets f p) ∙ ap (take (length p.drivers)) (map-append {B = Option ℕ} (λ n. None) (targets p) more)
      ∙ take_at (nones (targets p)) (nones more) (length p.drivers) (length-map {B = Option ℕ} (targets p) (λ n. None) ∙ length-map p.drivers (λ (d : FlatDriver). d.net))))
      (pending_begins (f + length (kept_elements p)) ps)

  pub waiting_begins : (f : ℕ) (ps : List FlatProcess) → map (λ (q : Process). true) (cores ps) ≡ map (λ (q : Process). true) (cores (kept_processes f ps))
  waiting_begins f [] = refl
  waiting_begins f (p ∷ ps) = ap (λ xs. true ∷ xs) (waiting_begins (f + length (kept_elements p)) ps)

  -- ---- who is resumed

  pub resumed_same : (types : List ElementType) (before now : List ℕ) (f : ℕ) (ps : List FlatProcess) → All (ProcessInRange types) ps
      → map (λ (q : Process). list_any (has_event (take (length types) before) (take (length types) now)) q.wakes) (cores ps)
      ≡ map (λ (q : Process). list_any (has_event before now) q.wakes) (cores (kept_processes f ps))
  resumed_same types before now f [] h = refl
  resumed_same types before now f (p ∷ ps) h =
      on_both (λ x (xs : List Bool). x ∷ xs)
      (any_same (has_event (take m before) (take m now)) (has_event before now) p.wakes
      (λ n c. let l = All-contains (λ w. w < length types) p.wakes n (All-head (ProcessInRange types) p ps h).wakes c in on_both (λ (x y : ℕ). not (x == y)) (get_or-take m before n 0 l) (get_or-take m now n 0 l))
      ∙ ap (list_any (has_event before now)) (sym (wakes_stay f p)))
      (resumed_same types before now (f + length (kept_elements p)) ps (All-tail (ProcessInRange types) p ps h))
    where
      m : ℕ
      m = length types

-- ---- values of the old nets

map_sources : (D E : List (List ℕ)) (xs : List Source)
    → ((p place : ℕ) → Contains xs (Driver p place) → slice_index (slice_index_or D p []) place ≡ slice_index (slice_index_or E p []) place)
    → map (source_value D) xs ≡ map (source_value E) xs
map_sources D E [] h = refl
map_sources D E (Driver p place ∷ xs) h =
    on_both (λ v (vs : List ℕ). v ∷ vs) (h p place (Contains-first (Driver p place) xs)) (map_sources D E xs (λ q k c. h q k (Contains-more (Driver p place) xs (Driver q k) c)))
map_sources D E (Idle v ∷ xs) h = ap (λ vs. v ∷ vs) (map_sources D E xs (λ q k c. h q k (Contains-more (Idle v) xs (Driver q k) c)))

module _ (net : FlatNetlist) (r : IsInRange net) where
  abbrev m : ℕ
  m = length net.types

  pub enough : length net.start ≤ length (kept_flat net).start
  enough = omega (arith, length-append net.start (flat_map kept_starts net.processes))

  pub types_below : (n : ℕ) → n < m → n < length (kept_flat net).types
  types_below n l = omega (arith, length-append net.types (flat_map kept_types net.processes))

  pub inputs_same : (inputs : ℕ → ℕ) (old new : List ℕ) → ((n : ℕ) → n < m → slice_index old n ≡ slice_index new n)
      → with_inputs (core_netlist net) inputs old ≡ take m (with_inputs (core_netlist (kept_flat net)) inputs new)
  inputs_same inputs old new h =
      map_taken (length net.start) (length (kept_flat net).start) (λ n. cond (list_any (λ k. k == n) net.inputs) (inputs n) (slice_index old n)) (λ n. cond (list_any (λ k. k == n) net.inputs) (inputs n) (slice_index new n)) enough
      (λ n l. ap (cond (list_any (λ k. k == n) net.inputs) (inputs n)) (h n (omega (arith, r.each_starts))))
      ∙ ap (λ k. take k (with_inputs (core_netlist (kept_flat net)) inputs new)) r.each_starts

  value_same : (D : List (List ℕ)) (n old new : ℕ) → old ≡ new → (xs : List Source) → flat_sources net n ≡ xs
      → net_value (core_netlist net) (old_rows net.processes D) xs old ≡ net_value (core_netlist (kept_flat net)) D xs new
  value_same D n old new e [] h = e
  value_same D n old new e (x ∷ xs) h = ap core_resolve (map_sources (old_rows net.processes D) D (x ∷ xs) at)
    where
      at : (p place : ℕ) → Contains (x ∷ xs) (Driver p place) → slice_index (slice_index_or (old_rows net.processes D) p []) place ≡ slice_index (slice_index_or D p []) place
      at p place c =
          let (l, t) = source_is_driver net n p place (subst (λ ys. Contains ys (Driver p place)) (sym h) c) in
          let b : place < drivers_at net.processes p = omega (arith, length-map (slice_index_or net.processes p no_flat_process).drivers (λ (d : FlatDriver). d.net)) in
          ap (λ xs. slice_index xs place) (old_rows_at net.processes D p) ∙ get_or-take (drivers_at net.processes p) (slice_index_or D p []) place 0 b

  pub values_same : (D : List (List ℕ)) (now : List ℕ) → net_values (core_netlist net) (old_rows net.processes D) (take m now) ≡ take m (net_values (core_netlist (kept_flat net)) D now)
  values_same D now =
      map_taken (length net.start) (length (kept_flat net).start) (λ n. net_value (core_netlist net) (old_rows net.processes D) (sources_of (core_netlist net) n) (slice_index (take m now) n))
      (λ n. net_value (core_netlist (kept_flat net)) D (sources_of (core_netlist (kept_flat net)) n) (slice_index now n)) enough
      (λ n l. let b : n < m = omega (arith, r.each_starts) in
      ap (λ xs. net_value (core_netlist net) (old_rows net.processes D) xs (slice_index (take m now) n)) (sources-core_net net n b)
      ∙ value_same D n (slice_index (take m now) n) (slice_index now n) (get_or-take m now n 0 b) (flat_sources net n) refl
      ∙ ap (λ xs. net_value (core_netlist (kept_flat net)) D xs (slice_index now n)) (sym (sources-core_net (kept_flat net) n (types_below n b) ∙ same_sources net r n b)))
      ∙ ap (λ k. take k (net_values (core_netlist (kept_flat net)) D now)) r.each_starts
