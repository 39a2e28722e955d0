-- What a kernel takes from its netlist.
use Rattle.std.proofs.Common.{◌≡◌, ℕ, zero, suc, ◌<◌, ◌≤◌, List, [], ◌∷◌, length, get_or, map, refl, sym, ap, subst, ◌∙◌, ◌⊎◌, inl, inr, Contains, All}
use Rattle.std.proofs.lemmas.Bool.{cases_lt}
use Rattle.std.proofs.lemmas.List.{get_or_past, length-map}
use Rattle.std.proofs.lemmas.List.Elements.{All-map}
use Rattle.std.proofs.lemmas.Option.{slice_get_within}
use Rattle.rtl_model.specs.nets.FlatNetlist.{FlatProcess, FlatDriver, DriverInRange, IsInRange, process_at, no_flat_process, targets}
use Rattle.rtl_model.specs.nets.CoreNetlist.{core_netlist, core_process}
use Rattle.rtl_model.specs.simulation.Netlist.{Process, process}
use Rattle.rtl_model.proofs.basics.Lists.{Contains-none, get_or-map_within}
use Rattle.rtl_model.proofs.nets.InRange.{process_in_range}
use Rattle.rtl_model.proofs.nets.Processes.{process-core_net}
use Rattle.rtl_drives.specs.Outcomes.{Outcome}
use Rattle.rtl_net.specs.Nets.{NetlistView, flat, driver_view, process_view}
use Rattle.rtl_net.specs.declared.process.Driver as r
use Rattle.rtl_net.specs.declared.process.Process as q
use Rattle.rtl_kernel.specs.drivers.Transactions.{nets_of, no_outcome, pending_of, targets_of}
use Rattle.rtl_kernel.specs.kernel.Kept.{HaveRoom}
use Rattle.rtl_kernel.specs.wakes.Woken.{IsIndex}
use Rattle.rtl_kernel.proofs.Cycles.{wakes_of}

nets_are : (ds : List r.Driver) → nets_of ds ≡ map (λ (d : FlatDriver). d.net) (map driver_view ds)
nets_are [] = refl
nets_are (d ∷ ds) = ap (λ (ns : List ℕ). d.net ∷ ns) (nets_are ds)

-- the nets of a process's drivers
rows_are : (ps : List q.Process) (p : ℕ) → targets_of ps p ≡ targets (get_or (map process_view ps) p no_flat_process)
rows_are [] p = refl
rows_are (x ∷ ps) zero = nets_are x.drives.items
rows_are (x ∷ ps) (suc p) = rows_are ps p

module _ (net : NetlistView) where
  pub targets_are : (p : ℕ) → targets_of net.processes p ≡ (process (core_netlist (flat net)) p).drives
  targets_are p = rows_are net.processes p ∙ sym (ap (λ (x : Process). x.drives) (process-core_net (flat net) p))

  pub each_target : {E : Type 0} (most : E → ℕ) (bodies : List E) (outcomes : List Outcome) → HaveRoom most (flat net) bodies outcomes
      → (p : ℕ) → length (targets_of net.processes p) ≡ length (get_or (pending_of outcomes) p [])
  each_target most bodies outcomes H p = ap length (rows_are net.processes p) ∙ by (cases_lt p (length outcomes))
    where
      by : (p < length outcomes) ⊎ (length outcomes ≤ p) → length (targets (process_at (flat net) p)) ≡ length (get_or (pending_of outcomes) p [])
      by (inl l) =
          length-map (process_at (flat net) p).drivers _ ∙ sym (H.own p l).each_driver
          ∙ sym (ap length (get_or-map_within (λ (o : Outcome). o.entries) outcomes p no_outcome [] l))
      by (inr l) =
          ap (λ (x : FlatProcess). length (targets x)) (get_or_past (flat net).processes p no_flat_process (rw (← H.as_many) l))
          ∙ sym (ap length (get_or_past (pending_of outcomes) p [] (rw length-map l)))

  pub nets_there : IsInRange (flat net) → All (λ (p : q.Process). All (λ n. n < length net.types) (nets_of p.drives.items)) net.processes
  nets_there R k d l j e within =
      let there : k < length (flat net).processes = rw length-map l in
      let P = process_in_range (flat net) R k there in
      let is = get_or-map_within process_view net.processes k d no_flat_process l in
      let ds = (get_or net.processes k d).drives.items in
      let D : All (DriverInRange net.types) (map driver_view ds) = subst (λ (x : FlatProcess). All (DriverInRange net.types) x.drivers) is P.drivers in
      let none : r.Driver = record { net = 0; start = 0 } in
      let here : j < length ds = rw length-map at within in
      let (t, has, lt) = rw (get_or-map_within driver_view ds j none (driver_view none) here) at (D j (driver_view none) (rw length-map here)) in
      rw (get_or-map_within (λ (x : r.Driver). x.net) ds j none e here) (slice_get_within net.types _ t has)

  pub wakes_there : IsInRange (flat net) → All (λ (p : q.Process). All (λ n. n < length net.types) p.wakes.items) net.processes
  wakes_there R k d l =
      let there : k < length (flat net).processes = rw length-map l in
      let P = process_in_range (flat net) R k there in
      let is = get_or-map_within process_view net.processes k d no_flat_process l in
      subst (λ (x : FlatProcess). All (λ n. n < length net.types) x.wakes) is P.wakes

  -- and as lists
  pub lists_there : IsInRange (flat net) → All (λ (nets : List ℕ). All (λ n. n < length net.types) nets) (map (λ (p : q.Process). p.wakes.items) net.processes)
  lists_there R = All-map (λ (nets : List ℕ). All (λ n. n < length net.types) nets) (λ (p : q.Process). p.wakes.items) net.processes (wakes_there R)

  pub wakes_are : map (λ (p : q.Process). p.wakes.items) net.processes ≡ wakes_of (core_netlist (flat net))
  wakes_are = by net.processes
    where
      by : (ps : List q.Process) → map (λ (p : q.Process). p.wakes.items) ps ≡ map (λ (p : Process). p.wakes) (map (core_process net.wide net.inputs) (map process_view ps))
      by [] = refl
      by (p ∷ ps) = ap (λ (ws : List (List ℕ)). p.wakes.items ∷ ws) (by ps)

  pub indexed_there : (index : List (List ℕ)) → IsIndex (map (λ (p : q.Process). p.wakes.items) net.processes) index
      → (n p : ℕ) → Contains (get_or index n []) p → p < length net.processes
  indexed_there index I n p h = by (cases_lt p (length net.processes))
    where
      wakes : List (List ℕ)
      wakes = map (λ (p : q.Process). p.wakes.items) net.processes

      by : (p < length net.processes) ⊎ (length net.processes ≤ p) → p < length net.processes
      by (inl l) = l
      by (inr l) =
          let past : get_or (map (λ (p : q.Process). p.wakes.items) net.processes) p [] ≡ [] = get_or_past _ p [] (rw length-map l) in
          absurd (Contains-none n (subst (λ (xs : List ℕ). Contains xs n) past (I.no_other n p h)))
