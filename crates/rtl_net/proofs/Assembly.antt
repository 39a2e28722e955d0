-- The netlist of given parts keeps its tables.
use Rattle.std.proofs.Common.{◌≡◌, ℕ, ◌<◌, true, false, List, [], ◌++◌, length, map, slice_index_or, Vec, Global, Some, sym, ap, ◌∙◌, arith, subst}
use Rattle.std.proofs.lemmas.List.{length-map, get_or-map, ext_get_or}
use Rattle.std.proofs.lemmas.List.FromFn.{length-map-range_with_len, get_or-map-range_with_len}
use Rattle.smallvec.specs.SmallVec.{SmallVec}
use Rattle.rtl_model.specs.simulation.Netlist.{Idle}
use Rattle.std.proofs.lemmas.Option.{slice_get_within}
use Rattle.rtl_model.specs.nets.FlatNetlist.{ProcessInRange, DriverInRange, all_drivers_of, flat_sources}
use Rattle.rtl_net.specs.declared.process.Process.{Process}
use Rattle.rtl_net.specs.declared.process.Driver.{Driver}
use Rattle.rtl_net.specs.declared.signal.Signal.{Signal}
use Rattle.rtl_net.specs.declared.net.Source.{Source}
use Rattle.rtl_net.specs.declared.net.Owner.{Owner}
use Rattle.rtl_net.specs.declared.net.Net.TheInside.{Inside}
use Rattle.rtl_net.specs.declared.building.Parts.{Parts}
use Rattle.rtl_net.specs.Nets.{NetlistView, flat, type_of, element_type, driver_view, process_view, signal_view}
use Rattle.rtl_net.specs.Names.{Element, element_of}
use Rattle.rtl_net.specs.Elaborated.{IsNet, SignalInRange}
use Rattle.rtl_net.specs.NetOf.{idle_values, owner_view, net_of, tabled, IsKept}
use Rattle.rtl_net.specs.Parts.{idle_at, assembled}
use Rattle.rtl_net.specs.steps.Tables.{shown, sources_at, owner_at}
use Rattle.rtl_net.proofs.Filling.{idle-sources}

-- the nets of drivers and signals are there
pub drivers-there : (net : NetlistView) → IsNet net → (k : ℕ) (p : Process) → k < length net.processes → (i : ℕ) (d : Driver) → i < length (slice_index_or net.processes k p).drives.items
    → (slice_index_or (slice_index_or net.processes k p).drives.items i d).net < length net.types
drivers-there net is_net k p l i d m =
    let q = slice_index_or net.processes k p in
    let process : ProcessInRange net.types (process_view q) =
    subst (ProcessInRange net.types) (get_or-map process_view net.processes k p (process_view p) l)
    (is_net.in_range.processes k (process_view p) (omega (arith, l, length-map net.processes process_view))) in
    let driver : DriverInRange net.types (driver_view (slice_index_or q.drives.items i d)) =
    subst (DriverInRange net.types) (get_or-map driver_view q.drives.items i d (driver_view d) m)
    (process.drivers i (driver_view d) (omega (arith, m, length-map q.drives.items driver_view))) in
    let (t, there, below) = driver in
    slice_get_within net.types (slice_index_or q.drives.items i d).net t there

pub signals-there : (parts : Parts) → IsNet (assembled parts) → (k : ℕ) (s : Signal) → k < length parts.signals.items → (i d : ℕ) → i < length (slice_index_or parts.signals.items k s).nets.items
    → slice_index_or (slice_index_or parts.signals.items k s).nets.items i d < length parts.kinds.items
signals-there parts is_net k s l i d m =
    let x = slice_index_or parts.signals.items k s in
    let signal : SignalInRange (map type_of parts.kinds.items) (length (assembled parts).scopes) (signal_view x) =
    subst (SignalInRange (map type_of parts.kinds.items) (length (assembled parts).scopes)) (get_or-map signal_view parts.signals.items k s (signal_view s) l)
    (is_net.signals k (signal_view s) (omega (arith, l, length-map parts.signals.items signal_view))) in
    let there = slice_get_within (map type_of parts.kinds.items) (slice_index_or x.nets.items i d) (element_type x.kind) (signal.nets i d m) in
    omega (arith, there, length-map parts.kinds.items type_of)

-- a list with n elements, of which the k-th is g k
tabled-by : {X : Type 0} (xs : List X) (n : ℕ) (g : ℕ → X) (d : X) → length xs ≡ n → ((k : ℕ) → k < n → slice_index_or xs k d ≡ g k) → xs ≡ tabled n g
tabled-by xs n g d e h =
    ext_get_or d xs (tabled n g) (e ∙ sym (length-map-range_with_len g 0 n))
    (λ k l. h k (omega (arith, l, e)) ∙ sym (get_or-map-range_with_len g 0 n k k d (omega (arith, l, e)) (omega arith)))

module _ (parts : Parts) (sources : Vec (SmallVec Source) Global) (owners : Vec Owner Global) where
  nets : ℕ
  nets = length parts.kinds.items

  abbrev pub made : Inside
  made = record {
    kinds = parts.kinds;
    starts = parts.starts;
    sources = sources;
    owners = owners;
    inputs = parts.inputs;
    processes = parts.processes;
    scopes = parts.scopes;
    signals = parts.signals;
    wide = false;
  }

  abbrev pub HasSources : Type 0
  HasSources = (n : ℕ) → n < length parts.kinds.items → sources_at sources.items n ≡ all_drivers_of n 0 (map process_view parts.processes.items) ++ map Idle (idle_at parts.idle.items n)

  blank : SmallVec Source
  blank = record { items = []; capacity = 0 }

  idle-table : length sources.items ≡ length parts.kinds.items → HasSources → map (λ (v : SmallVec Source). idle_values v.items) sources.items ≡ tabled (length parts.kinds.items) (idle_at parts.idle.items)
  idle-table e h =
      tabled-by _ (length parts.kinds.items) (idle_at parts.idle.items) [] (length-map sources.items (λ (v : SmallVec Source). idle_values v.items) ∙ e)
      (λ k l.
      let v = slice_index_or sources.items k blank in
      let l' : k < length sources.items = omega (arith, l, e) in
      get_or-map (λ (x : SmallVec Source). idle_values x.items) sources.items k blank [] l'
      ∙ idle-sources k (map process_view parts.processes.items) (idle_at parts.idle.items k) v.items (sym (get_or-map shown sources.items k blank [] l') ∙ h k l))

  pub made-view : length sources.items ≡ length parts.kinds.items → HasSources → net_of made ≡ assembled parts
  made-view e h = ap (λ (idle : List (List ℕ)). record (assembled parts) { idle = idle }) (idle-table e h)

  sources-table : length sources.items ≡ length parts.kinds.items → HasSources → map shown sources.items ≡ tabled (length parts.kinds.items) (flat_sources (flat (assembled parts)))
  sources-table e h =
      tabled-by _ (length parts.kinds.items) (flat_sources (flat (assembled parts))) [] (length-map sources.items shown ∙ e)
      (λ k l.
      h k l
      ∙ ap (λ vs. all_drivers_of k 0 (map process_view parts.processes.items) ++ map Idle vs)
      (sym (get_or-map-range_with_len (idle_at parts.idle.items) 0 (length parts.kinds.items) k k [] l (omega arith))))

  unknown : Owner
  unknown = record { signal = 0; place = 0 }

  owners-table : length owners.items ≡ length parts.kinds.items → IsNet (assembled parts)
      → ((n : ℕ) (e : Element) → n < length parts.kinds.items → element_of (assembled parts) n ≡ Some e → owner_at owners.items n e ≡ e)
      → map (λ o. Some (owner_view o)) owners.items ≡ tabled (length parts.kinds.items) (element_of (assembled parts))
  owners-table e is_net h =
      tabled-by _ (length parts.kinds.items) (element_of (assembled parts)) (Some (owner_view unknown)) (length-map owners.items (λ o. Some (owner_view o)) ∙ e)
      (λ k l.
      let l' : k < length owners.items = omega (arith, l, e) in
      let element = is_net.declared k (omega (arith, l, length-map parts.kinds.items type_of)) in
      get_or-map (λ o. Some (owner_view o)) owners.items k unknown (Some (owner_view unknown)) l'
      ∙ ap (λ (x : Element). Some x) (sym (get_or-map owner_view owners.items k unknown element.0 l') ∙ h k element.0 l element.1) ∙ sym element.1)

  pub made-kept : length sources.items ≡ length parts.kinds.items → HasSources → length owners.items ≡ length parts.kinds.items → IsNet (assembled parts)
      → ((n : ℕ) (e : Element) → n < length parts.kinds.items → element_of (assembled parts) n ≡ Some e → owner_at owners.items n e ≡ e) → IsKept made
  made-kept e h f is_net g =
      let view = made-view e h in
      record {
        net = subst IsNet (sym view) is_net;
        sources = sources-table e h ∙ ap (λ v. tabled (length parts.kinds.items) (flat_sources (flat v))) (sym view);
        owners = owners-table f is_net g ∙ ap (λ v. tabled (length parts.kinds.items) (element_of v)) (sym view);
      }

-- ---- whatever language it was read by

pub widened-net : (net : NetlistView) → IsNet net → IsNet (record net { wide = true })
widened-net net is = record {
  in_range = record {
    types_fit = is.in_range.types_fit;
    each_starts = is.in_range.each_starts;
    each_has_idle = is.in_range.each_has_idle;
    starts = is.in_range.starts;
    idle = is.in_range.idle;
    inputs_rise = is.in_range.inputs_rise;
    inputs = is.in_range.inputs;
    processes = is.in_range.processes;
  };
  connected = record {
    inputs_have_no_source = is.connected.inputs_have_no_source;
    nets_start = is.connected.nets_start;
    shared_are_resolved = is.connected.shared_are_resolved;
  };
  nets_limit = is.nets_limit;
  processes_limit = is.processes_limit;
  scopes_limit = is.scopes_limit;
  reads = is.reads;
  processes = is.processes;
  scopes = is.scopes;
  signals = is.signals;
  signals_in_order = is.signals_in_order;
  ports = is.ports;
  inputs = is.inputs;
  declared = is.declared;
}

pub widened-kept : (n : Inside) → IsKept n → IsKept (record n { wide = true })
widened-kept n kept = record { net = widened-net (net_of n) kept.net; sources = kept.sources; owners = kept.owners }
