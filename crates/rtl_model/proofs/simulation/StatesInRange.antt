-- The steps of a simulation keep a state's values in range.
use Rattle.std.proofs.Common.{◌≡◌, ℕ, zero, suc, ◌<◌, ◌≤◌, true, false, List, [], ◌∷◌, length, get_or, set, map, Option, Some, None, refl, sym, ap, ◌∙◌, arith, if◌then◌else◌, ◌⊎◌, inl, inr, subst, Contains, ◌==◌}
use Rattle.std.specs.List.{list_any}
use Rattle.std.proofs.lemmas.List.{length-map, length-set, get_or-set_same, get_or-set_other, get_or_past}
use Rattle.std.proofs.lemmas.List.Elements.{Contains-get_or}
use Rattle.std.proofs.lemmas.Bool.{cases_Bool, cases_eq, cases_lt, cond-true, cond-false}
use Rattle.rtl_model.proofs.basics.Lists.{get_or-map_within}
use Rattle.rtl_model.specs.simulation.Netlist.{no_process, Driver, HasPlace, Idle, Netlist, Process, process, Source, sources_of, target}
use Rattle.rtl_model.specs.simulation.Cycle.{all_driver_values, after_inputs, over, after_run, net_value, source_value, start_state, State, after_update, with_inputs}
use Rattle.rtl_model.specs.simulation.Moments.{Begun, Deltas, HasSettled, Runs}
use Rattle.rtl_model.specs.simulation.Elaborated.{IsWired}
use Rattle.rtl_model.specs.simulation.Range.{AreInputs, IsValuation, KeepsRange, limit, SourcesKeepRange, StateInRange}
use Rattle.rtl_model.specs.simulation.Laws.{StatesInRange}
use Rattle.rtl_model.proofs.simulation.Rows.{get_or-map, no_entries, none_pending_at, driven_all_at, length-driven, driven_at}
use Rattle.rtl_model.proofs.simulation.Solution.{get_or-table, length-table}
use Rattle.rtl_model.proofs.simulation.Range.{EntryBelow, entry_or_below, none_below}

-- entries laid over others
over_below : (most : ℕ) (as' bs : List (Option ℕ)) (k : ℕ) → EntryBelow most (get_or as' k None) → EntryBelow most (get_or bs k None) → EntryBelow most (get_or (over as' bs) k None)
over_below most (x ∷ as') [] k a b = a
over_below most (Some v ∷ as') (y ∷ bs) zero a b = a
over_below most (Some v ∷ as') (y ∷ bs) (suc k) a b = over_below most as' bs k a b
over_below most (None ∷ as') (y ∷ bs) (suc k) a b = over_below most as' bs k a b
over_below most _ _ _ a b = b

module _ (net : Netlist) (W : IsWired net) (K : KeepsRange net) (S : SourcesKeepRange net) where
  -- what a net's sources give
  resolved_below : (drivers : List (List ℕ)) → ((p place : ℕ) → HasPlace net p place → get_or (get_or drivers p []) place 0 < limit net (target net p place))
      → (n old : ℕ) → old < limit net n → net_value net drivers (sources_of net n) old < limit net n
  resolved_below drivers below n old l = go (sources_of net n) refl
    where
      source_below : (x : Source) → Contains (sources_of net n) x → source_value drivers x < limit net n
      source_below (Driver p place) c = let (h, t) = W.sources_are_drivers n p place c in subst (λ (m : ℕ). get_or (get_or drivers p []) place 0 < limit net m) t (below p place h)
      source_below (Idle v) c = S.idle_in_range n v c

      go : (xs : List Source) → sources_of net n ≡ xs → net_value net drivers xs old < limit net n
      go [] e = l
      go (x ∷ more) e =
          let same = length-map (x ∷ more) (source_value drivers) in
          S.resolution_in_range n (map (source_value drivers) (x ∷ more)) (same ∙ ap length (sym e)) (λ z. absurd (omega arith))
          (λ k h. rw (get_or-map_within (source_value drivers) (x ∷ more) k x 0 (omega arith)) (source_below (get_or (x ∷ more) k x) (subst (λ (xs : List Source). Contains xs (get_or (x ∷ more) k x)) (sym e) (Contains-get_or (x ∷ more) k x (omega arith)))))

  inputs_below : (inputs : ℕ → ℕ) (old : List ℕ) → AreInputs net inputs → IsValuation net old → IsValuation net (with_inputs net inputs old)
  inputs_below inputs old I is = record {
    each_net = length-table (length net.start) _;
    in_range = λ n l. rw (get_or-table (length net.start) (λ m. if list_any (λ k. k == m) net.inputs then inputs m else get_or old m 0) n l) (go n l (cases_Bool (list_any (λ m. m == n) net.inputs)));
  }
    where
      go : (n : ℕ) → n < length net.start → (list_any (λ m. m == n) net.inputs ≡ true) ⊎ (list_any (λ m. m == n) net.inputs ≡ false) → (if list_any (λ m. m == n) net.inputs then inputs n else get_or old n 0) < limit net n
      go n l (inl t) = rw (cond-true _ (inputs n) (get_or old n 0) t) (I n t)
      go n l (inr f) = rw (cond-false _ (inputs n) (get_or old n 0) f) (is.in_range n l)

  starts_below : (inputs : ℕ → ℕ) → AreInputs net inputs → StateInRange net (start_state net inputs)
  starts_below inputs I = record {
    before = first;
    now = first;
    each_driver = λ p. ap length (row p) ∙ W.each_driver_starts p;
    drivers = λ p place h. rw (row p) (S.drivers_start p place h);
    transactions = λ p place x h e. absurd (none p place x e);
  }
    where
      first : IsValuation net (with_inputs net inputs net.start)
      first = inputs_below inputs net.start I K.starts_in_range

      row : (p : ℕ) → get_or (map (λ (q : Process). q.starts) net.processes) p [] ≡ (process net p).starts
      row p = get_or-map (λ (q : Process). q.starts) net.processes p no_process

      none : (p place x : ℕ) → get_or (get_or (start_state net inputs).pending p []) place None ≡ Some x → ⊥
      none p place x e =
          let nothing = ap (λ (r : List (Option ℕ)). get_or r place None) (get_or-map (λ (q : Process). map {B = Option ℕ} (λ (n : ℕ). None) q.drives) net.processes p no_process) ∙ no_entries (process net p).drives place in
          cc

  updates_below : (s : State) → StateInRange net s → StateInRange net (after_update net s)
  updates_below s R = record {
    before = R.now;
    now = record {
      each_net = length-table (length net.start) _;
      in_range = λ n l. rw (get_or-table (length net.start) (λ m. net_value net (after_update net s).drivers (sources_of net m) (get_or s.now m 0)) n l) (resolved_below (after_update net s).drivers value_below n (get_or s.now n 0) (R.now.in_range n l));
    };
    each_driver = λ p. ap length (driven_all_at s.pending s.drivers p) ∙ length-driven (get_or s.pending p []) (get_or s.drivers p []) ∙ R.each_driver p;
    drivers = value_below;
    transactions = λ p place x h e. let nothing = none_pending_at s.pending p place in absurd cc;
  }
    where
      value_below : (p place : ℕ) → HasPlace net p place → get_or (get_or (all_driver_values s.pending s.drivers) p []) place 0 < limit net (target net p place)
      value_below p place h =
          let l = R.each_driver p in
          rw (ap (λ (row : List ℕ). get_or row place 0) (driven_all_at s.pending s.drivers p) ∙ driven_at (get_or s.pending p []) (get_or s.drivers p []) place (omega arith))
          (entry_or_below (limit net (target net p place)) (get_or (get_or s.drivers p []) place 0) (get_or (get_or s.pending p []) place None) (λ x e. R.transactions p place x h e) (R.drivers p place h))

  gives_below : (inputs : ℕ → ℕ) (s : State) → AreInputs net inputs → StateInRange net s → StateInRange net (after_inputs net inputs s)
  gives_below inputs s I R = record { before = R.now; now = inputs_below inputs s.now I R.now; each_driver = R.each_driver; drivers = R.drivers; transactions = R.transactions }

  -- the transactions of process p after its run
  abbrev row_of : (p : ℕ) → State → List (Option ℕ)
  row_of p s = over ((process net p).effect s.before s.now) (get_or s.pending p [])

  row_below : (p place : ℕ) (s : State) → StateInRange net s → HasPlace net p place → EntryBelow (limit net (target net p place)) (get_or (row_of p s) place None)
  row_below p place s R h =
      over_below (limit net (target net p place)) ((process net p).effect s.before s.now) (get_or s.pending p []) place (λ x e. K.effect_in_range p place x s.before s.now R.before R.now h e) (λ x e. R.transactions p place x h e)

  set_below : (p place : ℕ) (s : State) → StateInRange net s → HasPlace net p place → (p < length s.pending) ⊎ (length s.pending ≤ p) → EntryBelow (limit net (target net p place)) (get_or (get_or (set s.pending p (row_of p s)) p []) place None)
  set_below p place s R h (inl l) = rw (get_or-set_same s.pending p (row_of p s) [] l) (row_below p place s R h)
  set_below p place s R h (inr l) =
      let e = get_or_past (set s.pending p (row_of p s)) p [] (rw length-set l) in
      rw e (none_below (limit net (target net p place)))

  entry_below : (p q place : ℕ) (s : State) → StateInRange net s → HasPlace net q place → (q ≡ p) ⊎ (q ≡ p → ⊥) → EntryBelow (limit net (target net q place)) (get_or (get_or (set s.pending p (row_of p s)) q []) place None)
  entry_below p q place s R h (inl e) =
      subst (λ (k : ℕ). HasPlace net k place → EntryBelow (limit net (target net k place)) (get_or (get_or (set s.pending p (row_of p s)) k []) place None)) (sym e) (λ h'. set_below p place s R h' (cases_lt p (length s.pending))) h
  entry_below p q place s R h (inr ne) = rw (get_or-set_other s.pending p q (row_of p s) [] ne) (λ x e. R.transactions q place x h e)

  runs_below : (p : ℕ) (s : State) → StateInRange net s → StateInRange net (after_run net p s)
  runs_below p s R = record { before = R.before; now = R.now; each_driver = R.each_driver; drivers = R.drivers; transactions = λ q place x h e. entry_below p q place s R h (cases_eq q p) x e }

  -- whole simulations
  after_runs : (order : List ℕ) (s t : State) → Runs net order s t → StateInRange net s → StateInRange net t
  after_runs [] s t (done, e) R = subst (λ (u : State). StateInRange net u) (sym e) R
  after_runs (p ∷ order) s t (is, more) R = after_runs order (after_run net p s) t more (runs_below p s R)

  after_deltas : (orders : List (List ℕ)) (s t : State) → Deltas net orders s t → StateInRange net s → StateInRange net t
  after_deltas [] s t e R = subst (λ (u : State). StateInRange net u) (sym e) R
  after_deltas (order ∷ orders) s t (mid, (done, runs), more) R = after_deltas orders mid t more (after_runs order (after_update net s) mid runs (updates_below s R))

  module _ (stimulus : ℕ → ℕ → ℕ) (I : (m : ℕ) → AreInputs net (stimulus m)) where
    begun_below : (m : ℕ) (s : State) → Begun net stimulus m s → StateInRange net s
    begun_below zero s (order, runs) = after_runs order _ s runs (starts_below (stimulus 0) (I 0))
    begun_below (suc m) s (earlier, k, quiet, begun, (set, (orders, e, deltas)), (order, runs)) =
        after_runs order _ s runs (gives_below (stimulus (suc m)) quiet (I (suc m)) (after_deltas orders earlier quiet deltas (begun_below m earlier begun)))

    settled_below : (m k : ℕ) (t : State) → HasSettled net stimulus m k t → StateInRange net t
    settled_below m k t (s, begun, (set, (orders, e, deltas))) = after_deltas orders s t deltas (begun_below m s begun)

pub states_in_range : StatesInRange
states_in_range net W K S = (
  record { starts = starts_below net W K S; updates = updates_below net W K S; gives = gives_below net W K S; runs = runs_below net W K S },
  λ stimulus I m k t settled. settled_below net W K S stimulus I m k t settled,
)
