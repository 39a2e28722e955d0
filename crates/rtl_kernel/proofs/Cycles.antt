-- The parts of a cycle, as they are computed, are those of rtl_model.
use Rattle.std.proofs.Common.{◌≡◌, ℕ, ◌<◌, ◌≤◌, Bool, true, false, List, [], ◌∷◌, zero, suc, length, get_or, map, refl, sym, ap, subst, ◌∙◌, arith, ◌⊎◌, inl, inr, Contains}
use Rattle.std.specs.List.{list_any}
use Rattle.std.proofs.lemmas.Bool.{cases_Bool, cases_lt}
use Rattle.std.proofs.lemmas.List.{ext_get_or, length-map, nil_from_length}
use Rattle.std.proofs.lemmas.List.FromFn.{length-map-range_with_len}
use Rattle.rtl_model.specs.basics.Valuations.{has_event}
use Rattle.rtl_model.specs.nets.FlatNetlist.{flat_sources}
use Rattle.rtl_model.specs.simulation.Netlist.{Netlist, Process, Source, Driver, Idle, no_process, process, sources_of}
use Rattle.rtl_net.specs.Nets.{flat}
use Rattle.rtl_net.specs.declared.process.Process as q
use Rattle.rtl_model.specs.simulation.Cycle.{State, all_driver_values, net_value, resumed_processes, source_value, after_update}
use Rattle.rtl_model.specs.simulation.Elaborated.{IsWired}
use Rattle.rtl_model.specs.simulation.Laws.{IsConsistent}
use Rattle.rtl_model.proofs.basics.Lists.{any_at, any_true, Contains-first, Contains-none}
use Rattle.rtl_model.proofs.basics.Search.{is_contained}
use Rattle.rtl_model.proofs.simulation.Order.{get_or-rows}
use Rattle.rtl_model.proofs.simulation.Rows.{get_or-map, resumed_at}
use Rattle.rtl_kernel.specs.drivers.Resolved.{AreResolved}
use Rattle.rtl_kernel.specs.drivers.Brought.{NotedNets, IsDriver, IsDriverOf, IsBrought, is_noted, has_kept, has_value}
use Rattle.rtl_kernel.specs.drivers.Transactions.{driver_at, targets_of}
use Rattle.rtl_kernel.specs.wakes.Woken.{IsIndex, AreWoken}

module _ (net : Netlist) where
  abbrev pub wakes_of : List (List ℕ)
  wakes_of = map (λ (p : Process). p.wakes) net.processes

  wakes_at : (p : ℕ) → get_or wakes_of p [] ≡ (process net p).wakes
  wakes_at p = get_or-map (λ (p : Process). p.wakes) net.processes p no_process

  -- the processes that the index finds are those that are resumed
  pub woken_are_resumed : (before now : List ℕ) (index : List (List ℕ)) (waiting : List Bool) → length waiting ≡ length net.processes
      → IsIndex wakes_of index → AreWoken index before now waiting → waiting ≡ resumed_processes net before now
  woken_are_resumed before now index waiting as_many I W =
      ext_get_or false waiting (resumed_processes net before now) (as_many ∙ sym (length-map net.processes (λ (q : Process). list_any (has_event before now) q.wakes)))
      (λ p l. by p (cases_Bool (get_or waiting p false)) (cases_Bool (list_any (has_event before now) (process net p).wakes)) ∙ sym (resumed_at net before now p))
    where
      by : (p : ℕ) → (get_or waiting p false ≡ true) ⊎ (get_or waiting p false ≡ false)
          → (list_any (has_event before now) (process net p).wakes ≡ true) ⊎ (list_any (has_event before now) (process net p).wakes ≡ false)
          → get_or waiting p false ≡ list_any (has_event before now) (process net p).wakes
      by p (inl w) (inl r) = w ∙ sym r
      by p (inr w) (inr r) = w ∙ sym r
      by p (inl w) (inr r) =
          let (n, event, there) = W.no_other p w in
          let a = any_true (has_event before now) (process net p).wakes n (rw wakes_at at (I.no_other n p there)) event in cc
      by p (inr w) (inl r) =
          let (n, there, event) = any_at (has_event before now) (process net p).wakes r in
          let a = W.all_wait n p event (I.all_are_in p n (rw (wakes_at p) there)) in cc

  -- a net whose sources have the values that they had keeps its own
  unmoved : (s : State) (n : ℕ) → IsConsistent net s → n < length net.start
      → ((x : Source) → Contains (sources_of net n) x → source_value (all_driver_values s.pending s.drivers) x ≡ source_value s.drivers x)
      → net_value net (all_driver_values s.pending s.drivers) (sources_of net n) (get_or s.now n 0) ≡ get_or s.now n 0
  unmoved s n C l same = by (sources_of net n) refl
    where
      same_values : (xs : List Source) → ((x : Source) → Contains xs x → source_value (all_driver_values s.pending s.drivers) x ≡ source_value s.drivers x)
          → map (source_value (all_driver_values s.pending s.drivers)) xs ≡ map (source_value s.drivers) xs
      same_values [] h = refl
      same_values (x ∷ xs) h = λ i. h x (Contains-first x xs) i ∷ same_values xs (λ y (k, m, at). h y (suc k, omega arith, at)) i

      by : (xs : List Source) → sources_of net n ≡ xs → net_value net (all_driver_values s.pending s.drivers) xs (get_or s.now n 0) ≡ get_or s.now n 0
      by [] e = refl
      by (x ∷ xs) e =
          ap net.resolve (ap (map (source_value (all_driver_values s.pending s.drivers))) (sym e) ∙ same_values (sources_of net n) same)
          ∙ sym (C n x l (subst (λ (ys : List Source). Contains ys x) (sym e) (Contains-first x xs)))

  -- Where the nets of drivers with new values have them at once, or are noted and then resolved,
  -- and the others are left, the nets are updated. A net is noted by its group.
  module _ (one : (v : ℕ) → net.resolve (v ∷ []) ≡ v) (processes : List q.Process) (s : State) (old mid : NotedNets) (W : IsWired net) (C : IsConsistent net s)
      (as_many : length s.now ≡ length net.start) (now_is : old.values.current ≡ s.now)
      (sources : (n : ℕ) → n < length net.start → flat_sources (flat old.net) n ≡ sources_of net n)
      (targets : (p : ℕ) → targets_of processes p ≡ (process net p).drives) where
    abbrev pub IsNoted : ℕ → Type 0
    IsNoted n = Contains mid.noted (get_or old.values.groups.of_net n 0)

    abbrev driven : List (List ℕ)
    driven = all_driver_values s.pending s.drivers

    abbrev value : (n value : ℕ) → ℕ
    value n v = net_value net driven (sources_of net n) v

    abbrev IsNew : ℕ → Type 0
    IsNew n = IsBrought (IsDriverOf processes) (λ d. driver_at s.drivers d.0 d.1) (λ d. driver_at driven d.0 d.1) old mid n

    placed : (n : ℕ) (d : ℕ × ℕ) → IsDriverOf processes d n → Contains (sources_of net n) (Driver d.0 d.1)
    placed n d D =
        let l = subst (λ (ts : List ℕ). d.1 < length ts) (targets d.0) D.there in
        let e = subst (λ (ts : List ℕ). get_or ts d.1 0 ≡ n) (targets d.0) D.is in
        subst (λ (m : ℕ). Contains (sources_of net m) (Driver d.0 d.1)) e (W.drivers_are_sources d.0 d.1 l)

    sourced : (n p place : ℕ) → Contains (sources_of net n) (Driver p place) → IsDriver (targets_of processes p) place n
    sourced n p place h =
        let (l, e) = W.sources_are_drivers n p place h in
        record { there = subst (λ (ts : List ℕ). place < length ts) (sym (targets p)) l; is = subst (λ (ts : List ℕ). get_or ts place 0 ≡ n) (sym (targets p)) e }

    stays : (n : ℕ) → get_or mid.values.current n 0 ≡ get_or old.values.current n 0 → get_or mid.values.current n 0 ≡ get_or s.now n 0
    stays n same = same ∙ ap (λ (vs : List ℕ). get_or vs n 0) now_is

    no_source : (n : ℕ) (d : ℕ × ℕ) → sources_of net n ≡ [] → IsDriverOf processes d n → ⊥
    no_source n d none D = Contains-none (Driver d.0 d.1) (subst (λ (xs : List Source). Contains xs (Driver d.0 d.1)) none (placed n d D))

    left : (n : ℕ) → sources_of net n ≡ [] → IsNew n → get_or mid.values.current n 0 ≡ get_or s.now n 0
    left n none (is_noted d D h) = absurd (no_source n d none D)
    left n none (has_kept same drivers) = stays n same
    left n none (has_value d D alone is) = absurd (no_source n d none D)

    -- where there are sources, the old value says nothing
    either_way : (xs : List Source) (v w : ℕ) → 0 < length xs → net_value net driven xs v ≡ net_value net driven xs w
    either_way [] v w l = absurd (omega arith)
    either_way (x ∷ xs) v w l = refl

    again : (n : ℕ) → IsNew n → value n (get_or mid.values.current n 0) ≡ value n (get_or s.now n 0)
    again n B = by (cases_lt 0 (length (sources_of net n)))
      where
        by : (0 < length (sources_of net n)) ⊎ (length (sources_of net n) ≤ 0) → value n (get_or mid.values.current n 0) ≡ value n (get_or s.now n 0)
        by (inl l) = either_way (sources_of net n) (get_or mid.values.current n 0) (get_or s.now n 0) l
        by (inr l) = ap (net_value net driven (sources_of net n)) (left n (nil_from_length (sources_of net n) (omega arith)) B)

    only : (xs : List Source) (x : Source) → length xs ≡ 1 → Contains xs x → xs ≡ x ∷ []
    only [] x l h = absurd (omega arith)
    only (y ∷ []) x l (zero, m, e) = ap (λ (z : Source). z ∷ []) e
    only (y ∷ []) x l (suc k, m, e) = absurd (omega arith)
    only (y ∷ z ∷ xs) x l h = absurd (omega arith)

    of_one : (n : ℕ) → n < length net.start → (IsNoted n → ⊥) → IsNew n → get_or mid.values.current n 0 ≡ value n (get_or s.now n 0)
    of_one n l absent (is_noted d D h) = absurd (absent h)
    of_one n l absent (has_kept same drivers) = stays n same ∙ sym (unmoved s n C l still)
      where
        still : (x : Source) → Contains (sources_of net n) x → source_value driven x ≡ source_value s.drivers x
        still (Idle v) h = refl
        still (Driver p place) h = drivers (p, place) (sourced n p place h)
    of_one n l absent (has_value d D alone is) =
        let single = only (sources_of net n) (Driver d.0 d.1) (sym (ap length (sources n l)) ∙ alone) (placed n d D) in
        is ∙ sym (one (driver_at driven d.0 d.1)) ∙ sym (ap (λ (xs : List Source). net_value net driven xs (get_or s.now n 0)) single)

    pub brought_are_updated : (now : List ℕ) → length mid.values.current ≡ length old.values.current → ((n : ℕ) → IsNew n)
        → AreResolved net driven IsNoted mid.values.current now → now ≡ (after_update net s).now
    brought_are_updated now many each R =
        let long : length mid.values.current ≡ length net.start = many ∙ ap length now_is ∙ as_many in
        ext_get_or 0 now (after_update net s).now (R.as_many ∙ long ∙ sym (length-map-range_with_len _ 0 (length net.start)))
        (λ n l. by n (omega (arith, l, R.as_many, long)) (omega (arith, l, R.as_many)) (is_contained mid.noted (get_or old.values.groups.of_net n 0)))
      where
        at : (n : ℕ) → n < length net.start → get_or (after_update net s).now n 0 ≡ value n (get_or s.now n 0)
        at n l = get_or-rows (λ m. value m (get_or s.now m 0)) (length net.start) n 0 l

        by : (n : ℕ) → n < length net.start → n < length mid.values.current → IsNoted n ⊎ (IsNoted n → ⊥) → get_or now n 0 ≡ get_or (after_update net s).now n 0
        by n l m (inl there) = R.resolved n m there ∙ again n (each n) ∙ sym (at n l)
        by n l m (inr absent) = R.others n m absent ∙ of_one n l absent (each n) ∙ sym (at n l)
