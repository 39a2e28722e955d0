-- The sources of a netlist in range give values of its type.
use Rattle.std.proofs.Common.{◌≡◌, ℕ, ◌<◌, ◌≤◌, List, [], ◌∷◌, length, get_or, map, slice_index, refl, ap, subst, arith, Contains}
use Rattle.std.proofs.lemmas.List.{length-map}
use Rattle.vhdl_values.specs.Scalar.{value_of_code}
use Rattle.vhdl_values.specs.Resolution.{resolved}
use Rattle.vhdl_values.proofs.Codes.{code_of_below}
use Rattle.rtl_model.specs.bodies.Types.{nine_valued, limit_of}
use Rattle.rtl_model.specs.nets.FlatNetlist as flat
use Rattle.rtl_model.specs.nets.FlatNetlist.{FlatNetlist, FlatDriver, targets, starts, IsInRange, flat_sources}
use Rattle.rtl_model.specs.nets.Wiring.{IsConnected}
use Rattle.rtl_model.specs.nets.CoreNetlist.{core_netlist, core_resolve}
use Rattle.rtl_model.specs.nets.Laws.{EachSourceKeepsRange}
use Rattle.rtl_model.specs.simulation.Netlist as c
use Rattle.rtl_model.specs.simulation.Netlist.{Source, Idle}
use Rattle.rtl_model.specs.simulation.Range.{limit, SourcesKeepRange}
use Rattle.rtl_model.proofs.basics.Lists.{Contains-first, get_or-map_within}
use Rattle.rtl_model.proofs.nets.Processes.{process-core_net}
use Rattle.rtl_model.proofs.nets.InRange.{limit-at, type_at, has_process, process_in_range}
use Rattle.rtl_model.proofs.nets.Sources.{sources-core_net, source_there, source_is_idle}
use Rattle.rtl_model.proofs.nets.Connected.{no_driver}

some_source : (xs : List Source) → 1 ≤ length xs → (x : Source) × Contains xs x
some_source [] l = absurd (omega arith)
some_source (x ∷ xs) l = (x, Contains-first x xs)

module _ (net : FlatNetlist) (in_range : IsInRange net) (connected : IsConnected net) where
  -- at a place of a process, its driver's start and net
  driver_starts : (p place : ℕ) → place < length (targets (flat.process_at net p)) → slice_index (starts (flat.process_at net p)) place < limit (core_netlist net) (slice_index (targets (flat.process_at net p)) place)
  driver_starts p place l =
      let ds = (flat.process_at net p).drivers in
      let l' : place < length ds = omega (arith, length-map ds (λ (d : FlatDriver). d.net)) in
      let (t, typed, below) = (process_in_range net in_range p (has_process net in_range p place l)).drivers place no_driver l' in
      rw (get_or-map_within (λ (d : FlatDriver). d.start) ds place no_driver 0 l', get_or-map_within (λ (d : FlatDriver). d.net) ds place no_driver 0 l', limit-at net.types (get_or ds place no_driver).net t typed) below

  idle_below : (n v : ℕ) → Contains (c.sources_of (core_netlist net) n) (Idle v) → v < limit (core_netlist net) n
  idle_below n v h =
      let there = source_there net n (Idle v) h in
      let (t, typed) = type_at net.types n there in
      let (k, l, at) = source_is_idle net n v (subst (λ (xs : List Source). Contains xs (Idle v)) (sources-core_net net n there) h) in
      rw (limit-at net.types n t typed) (subst (λ (x : ℕ). x < limit_of t) at (in_range.idle n t typed k v l))

  resolved_below : (n : ℕ) (values : List ℕ) → length values ≡ length (c.sources_of (core_netlist net) n) → (length values ≡ 0 → ⊥)
      → ((k : ℕ) → k < length values → slice_index values k < limit (core_netlist net) n) → core_resolve values < limit (core_netlist net) n
  resolved_below n [] e some below = absurd (some refl)
  resolved_below n (v ∷ []) e some below = below 0 (omega arith)
  resolved_below n (v ∷ w ∷ more) e some below =
      let (source, among) = some_source (c.sources_of (core_netlist net) n) (omega arith) in
      let there = source_there net n source among in
      let two : 2 ≤ length (flat_sources net n) = omega (arith, ap length (sources-core_net net n there)) in
      rw (limit-at net.types n nine_valued (connected.shared_are_resolved n two)) (code_of_below (resolved (map value_of_code (v ∷ w ∷ more))))

  keep_range : SourcesKeepRange (core_netlist net)
  keep_range = record {
    drivers_start = λ p place h. starts_at p place h;
    idle_in_range = idle_below;
    resolution_in_range = resolved_below;
  }
    where
      starts_at : (p place : ℕ) → c.HasPlace (core_netlist net) p place → slice_index (c.process (core_netlist net) p).starts place < limit (core_netlist net) (c.target (core_netlist net) p place)
      starts_at p place = rw (process-core_net net p) (driver_starts p place)

pub sources_keep_range : EachSourceKeepsRange
sources_keep_range net in_range connected = keep_range net in_range connected
