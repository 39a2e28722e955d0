-- A netlist that is in range and connected has all that the laws of simulation ask.
use Rattle.std.proofs.Common.{◌≡◌, ℕ, ◌<◌, Bool, List, [], ◌∷◌, length, get_or, map, slice_index, slice_index_or, ◌≤◌, ◌⊎◌, inl, inr, refl, sym, ap, ◌∙◌, subst, arith, Contains}
use Rattle.std.proofs.lemmas.List.{length-map, get_or-map, get_or_past}
use Rattle.std.proofs.lemmas.Bool.{cases_lt}
use Rattle.std.proofs.lemmas.Option.{slice_get_within}
use Rattle.rtl_model.specs.bodies.Types.{nine_valued, HasType}
use Rattle.rtl_model.specs.nets.FlatNetlist as flat
use Rattle.rtl_model.specs.nets.FlatNetlist.{FlatNetlist, FlatProcess, FlatDriver, targets, starts, DriverInRange, IsInRange, flat_sources}
use Rattle.rtl_model.specs.nets.Wiring.{IsConnected}
use Rattle.rtl_model.specs.nets.CoreNetlist.{core_process, core_netlist, core_resolve}
use Rattle.rtl_model.specs.nets.Laws.{EachIsElaborated}
use Rattle.rtl_model.specs.simulation.Netlist as c
use Rattle.rtl_model.specs.simulation.Cycle.{source_value}
use Rattle.rtl_model.specs.simulation.Elaborated.{IsWired}
use Rattle.rtl_model.proofs.basics.Lists.{Contains-none, in_contains}
use Rattle.rtl_model.proofs.nets.Processes.{process-core_net, has_bodies}
use Rattle.rtl_model.proofs.nets.Values.{has_values}
use Rattle.rtl_model.proofs.nets.InRange.{has_process, process_in_range}
use Rattle.rtl_model.proofs.nets.Sources.{sources-core_net, source_there, source_is_driver, driver_is_source, source_is_idle}

core_starts : (wide : Bool) (inputs : List ℕ) (ps : List FlatProcess) → map (λ (p : c.Process). p.starts) (map (core_process wide inputs) ps) ≡ map starts ps
core_starts wide inputs [] = refl
core_starts wide inputs (p ∷ ps) = ap (λ (rest : List (List ℕ)). starts p ∷ rest) (core_starts wide inputs ps)

as_many : (p : FlatProcess) → length (starts p) ≡ length (targets p)
as_many p = length-map p.drivers (λ (d : FlatDriver). d.start) ∙ sym (length-map p.drivers (λ (d : FlatDriver). d.net))

pub no_driver : FlatDriver
no_driver = record { net = 0; start = 0 }

module _ (net : FlatNetlist) (in_range : IsInRange net) where
  target_below : (p place : ℕ) → place < length (targets (flat.process_at net p)) → slice_index (targets (flat.process_at net p)) place < length net.types
  target_below p place l =
      let q : FlatProcess = flat.process_at net p in
      let l' : place < length q.drivers = omega (arith, length-map q.drivers (λ (d : FlatDriver). d.net)) in
      let d : DriverInRange net.types (get_or q.drivers place no_driver) = (process_in_range net in_range p (has_process net in_range p place l)).drivers place no_driver l' in
      let b : (get_or q.drivers place no_driver).net < length net.types = slice_get_within net.types _ d.0 d.1 in
      let k : slice_index (targets q) place ≡ (get_or q.drivers place no_driver).net = get_or-map (λ (x : FlatDriver). x.net) q.drivers place no_driver 0 l' in
      omega arith

  -- a net with a source is there
  pub source_below : (n : ℕ) (source : c.Source) → Contains (flat_sources net n) source → n < length net.types
  source_below n (c.Driver p place) h = let (l, e) = source_is_driver net n p place h in subst (λ (x : ℕ). x < length net.types) e (target_below p place l)
  source_below n (c.Idle v) h = go (source_is_idle net n v h) (cases_lt n (length net.idle))
    where
      go : Contains (slice_index_or net.idle n []) v → (n < length net.idle) ⊎ (length net.idle ≤ n) → n < length net.types
      go h (inl l) = let e = in_range.each_has_idle in omega arith
      go h (inr l) = absurd (Contains-none v (subst (λ (xs : List ℕ). Contains xs v) (get_or_past net.idle n [] l) h))

module _ (net : FlatNetlist) (in_range : IsInRange net) (connected : IsConnected net) where
  input_below : (n : ℕ) → Contains net.inputs n → n < length net.types
  input_below n (k, l, at) = slice_get_within net.types n nine_valued (subst (λ (x : ℕ). HasType net.types nine_valued x) at (in_range.inputs k n l))

  of_targets : (p place : ℕ) → c.HasPlace (core_netlist net) p place → c.target (core_netlist net) p place < length net.start
  of_targets p place = rw (process-core_net net p, in_range.each_starts) (target_below net in_range p place)

  of_inputs : (n : ℕ) → c.IsInput (core_netlist net) n → n < length net.start
  of_inputs n h = let b = input_below n (in_contains net.inputs n h) in let e = in_range.each_starts in omega arith

  without_source : (n : ℕ) → c.IsInput (core_netlist net) n → c.sources_of (core_netlist net) n ≡ []
  without_source n h =
      let i = in_contains net.inputs n h in
      sources-core_net net n (input_below n i) ∙ connected.inputs_have_no_source n i

  of_sources : (n p place : ℕ) → Contains (c.sources_of (core_netlist net) n) (c.Driver p place) → c.HasPlace (core_netlist net) p place × (c.target (core_netlist net) p place ≡ n)
  of_sources n p place h =
      let there = source_there net n (c.Driver p place) h in
      rw (process-core_net net p) (source_is_driver net n p place (subst (λ (xs : List c.Source). Contains xs (c.Driver p place)) (sources-core_net net n there) h))

  of_drivers : (p place : ℕ) → c.HasPlace (core_netlist net) p place → Contains (c.sources_of (core_netlist net) (c.target (core_netlist net) p place)) (c.Driver p place)
  of_drivers p place = rw (process-core_net net p) (λ l.
      let n = slice_index (targets (flat.process_at net p)) place in
      subst (λ (xs : List c.Source). Contains xs (c.Driver p place)) (sym (sources-core_net net n (target_below net in_range p place l))) (driver_is_source net n p place l refl))

  of_starts : (p : ℕ) → length (c.process (core_netlist net) p).starts ≡ length (c.process (core_netlist net) p).drives
  of_starts p = rw (process-core_net net p) (as_many (flat.process_at net p))

  nets_start : (n : ℕ) (source : c.Source) → Contains (c.sources_of (core_netlist net) n) source
      → slice_index net.start n ≡ core_resolve (map (source_value (map (λ (p : c.Process). p.starts) (map (core_process net.wide net.inputs) net.processes))) (c.sources_of (core_netlist net) n))
  nets_start n source h =
      let e = sources-core_net net n (source_there net n source h) in
      connected.nets_start n source (subst (λ (xs : List c.Source). Contains xs source) e h)
      ∙ (λ i. core_resolve (map (source_value (sym (core_starts net.wide net.inputs net.processes) i)) (sym e i)))

  is_wired : IsWired (core_netlist net)
  is_wired = record {
    targets_are_nets = of_targets;
    inputs_are_nets = of_inputs;
    inputs_have_no_source = without_source;
    sources_are_drivers = of_sources;
    drivers_are_sources = of_drivers;
    each_driver_starts = of_starts;
    nets_start = nets_start;
  }

pub connected_is_elaborated : EachIsElaborated
connected_is_elaborated net in_range connected = record { wiring = is_wired net in_range connected; values = has_values net; bodies = has_bodies net }
