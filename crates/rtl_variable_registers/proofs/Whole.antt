-- What the netlist with nets settles in at each moment, the standard's simulation with variables settles in.
use Rattle.std.proofs.Common.{◌≡◌, ℕ, zero, suc, ◌+◌, ◌<◌, ◌≤◌, true, false, List, [], ◌∷◌, length, map, take, slice_index, slice_index_or, Option, Some, None, unwrap_or, refl, sym, ap, ◌∙◌, subst, arith, ◌⊎◌, inl, inr, Contains}
use Rattle.std.specs.List.{list_any}
use Rattle.std.specs.Option.{is_some}
use Rattle.std.proofs.lemmas.Bool.{cases_Bool, or_parts, not-true}
use Rattle.std.proofs.lemmas.Grind.{same_number_lists}
use Rattle.std.proofs.lemmas.List.{length-take-le, get_or-take}
use Rattle.rtl_model.specs.nets.CoreNetlist.{core_netlist}
use Rattle.rtl_model.specs.nets.FlatNetlist.{FlatNetlist, IsInRange, process_at}
use Rattle.rtl_model.specs.nets.Wiring.{IsConnected}
use Rattle.rtl_model.specs.simulation.Cycle.{State, is_quiet, driver_values, all_driver_values, none_pending, start_state, after_update, after_inputs, after_run, resumed_processes, with_inputs}
use Rattle.rtl_model.specs.simulation.Elaborated.{IsElaborated}
use Rattle.rtl_model.specs.simulation.Laws.{IsConsistent, StaysConsistent, StepsKeepRange}
use Rattle.rtl_model.specs.simulation.Moments.{HasNoneToRun, Runs, Deltas, HasDeltas, SettlesTo, Begun, HasSettled}
use Rattle.rtl_model.specs.simulation.Netlist.{Netlist}
use Rattle.rtl_model.specs.simulation.Range.{StateInRange, AreInputs}
use Rattle.rtl_model.proofs.nets.Connected.{connected_is_elaborated}
use Rattle.rtl_model.proofs.nets.InRange.{keeps_range}
use Rattle.rtl_model.proofs.nets.SourcesInRange.{sources_keep_range}
use Rattle.rtl_model.proofs.simulation.Consistent.{each_stays_consistent}
use Rattle.rtl_model.proofs.simulation.Rows.{quiet_at}
use Rattle.rtl_model.proofs.simulation.Solution.{length-table}
use Rattle.rtl_model.proofs.simulation.StatesInRange.{states_in_range}
use Rattle.rtl_variable_registers.specs.Beside.{FullState, variables_of, full_start, full_update, full_inputs, full_run, old_part, driver_at, IsBeside, StaysBeside, OthersStoreNone}
use Rattle.rtl_variable_registers.specs.Nets.{kept_flat, first_net}
use Rattle.rtl_variable_registers.specs.Processes.{kept_elements, rank_in}
use Rattle.rtl_variable_registers.specs.Whole.{FullRuns, FullDeltas, FullBegun, SettlesAlike, EachSettlesAlike}
use Rattle.rtl_variable_registers.proofs.Beside.{stays_beside, old_quiet}
use Rattle.rtl_variable_registers.proofs.Connected.{kept_connected}
use Rattle.rtl_variable_registers.proofs.InRange.{kept_in_range}
use Rattle.rtl_variable_registers.proofs.Starting.{enough}

-- ---- an Update without transactions

quiet_row : (xs : List (Option ℕ)) (vs : List ℕ) → list_any is_some xs ≡ false → driver_values xs vs ≡ vs
quiet_row [] vs h = refl
quiet_row (None ∷ xs) [] h = refl
quiet_row (None ∷ xs) (v ∷ vs) h = ap (λ ws. v ∷ ws) (quiet_row xs vs h)
quiet_row (Some w ∷ xs) vs h = absurd cc

quiet_rows : (xs : List (List (Option ℕ))) (rows : List (List ℕ)) → list_any (list_any is_some) xs ≡ false → all_driver_values xs rows ≡ rows
quiet_rows [] rows h = refl
quiet_rows (x ∷ xs) [] h = refl
quiet_rows (x ∷ xs) (row ∷ rows) h =
    let (a, b) = or_parts (list_any is_some x) (list_any (list_any is_some) xs) h in
    λ i. quiet_row x row a i ∷ quiet_rows xs rows b i

none_row : (xs : List (Option ℕ)) → list_any is_some xs ≡ false → map {B = Option ℕ} (λ x. None) xs ≡ xs
none_row [] h = refl
none_row (None ∷ xs) h = ap (λ ys. None ∷ ys) (none_row xs h)
none_row (Some v ∷ xs) h = absurd cc

none_rows : (xs : List (List (Option ℕ))) → list_any (list_any is_some) xs ≡ false → none_pending xs ≡ xs
none_rows [] h = refl
none_rows (x ∷ xs) h =
    let (a, b) = or_parts (list_any is_some x) (list_any (list_any is_some) xs) h in
    λ i. none_row x a i ∷ none_rows xs b i

-- Inputs behind it is Inputs without it
inputs_behind : (net : Netlist) (inputs : ℕ → ℕ) (s : State) → is_quiet s ≡ true → (after_update net s).now ≡ s.now → after_inputs net inputs (after_update net s) ≡ after_inputs net inputs s
inputs_behind net inputs s q same i = record {
  before = same i;
  now = with_inputs net inputs (same i);
  drivers = quiet_rows s.pending s.drivers (not-true _ q) i;
  pending = none_rows s.pending (not-true _ q) i;
  waiting = resumed_processes net (same i) (with_inputs net inputs (same i));
}

module _ (net : FlatNetlist) (r : IsInRange net) (c : IsConnected net) (others : OthersStoreNone net) where
  abbrev kept : Netlist
  kept = core_netlist (kept_flat net)

  beside : StaysBeside net (core_netlist (kept_flat net))
  beside = stays_beside net r c others

  elaborated : IsElaborated (core_netlist (kept_flat net))
  elaborated = connected_is_elaborated (kept_flat net) (kept_in_range net r) (kept_connected net r c)

  consistent : StaysConsistent (core_netlist (kept_flat net))
  consistent = each_stays_consistent kept elaborated.wiring

  ranges : StepsKeepRange (core_netlist (kept_flat net))
  ranges = (states_in_range kept elaborated.wiring (keeps_range (kept_flat net) (kept_in_range net r)) (sources_keep_range (kept_flat net) (kept_in_range net r) (kept_connected net r c))).0

  -- what holds of all states of the netlist with nets
  record IsGood (t : State) : Type 0 where
    in_range : StateInRange (core_netlist (kept_flat net)) t
    is_consistent : IsConsistent (core_netlist (kept_flat net)) t

  -- the two states, beside each other
  record Beside (s : FullState) (t : State) : Type 0 where
    is : IsBeside net s t
    good : IsGood t

  -- ---- Runs

  record Ran (order : List ℕ) (s : FullState) (t : State) : Type 0 where
    state : FullState
    runs : FullRuns net order s state
    both : Beside state t
    none : HasNoneToRun t

  runs_alike : (order : List ℕ) (s : FullState) (t u : State) → Beside s t → Runs kept order t u → Ran order s u
  runs_alike [] s t u b (none, e) = record {
    state = s;
    runs = ((λ p w. none p (sym (ap (λ (x : State). slice_index_or x.waiting p false) b.is.nets) ∙ w)), refl);
    both = subst (Beside s) (sym e) b;
    none = subst HasNoneToRun (sym e) none;
  }
  runs_alike (p ∷ order) s t u b (w, more) =
      let next : Beside (full_run net p s) (after_run kept p t) = record {
        is = beside.runs p s t b.good.in_range w b.is;
        good = record { in_range = ranges.runs p t b.good.in_range; is_consistent = consistent.runs p t b.good.is_consistent };
      } in
      let x = runs_alike order (full_run net p s) (after_run kept p t) u next more in
      record { state = x.state; runs = (ap (λ (y : State). slice_index_or y.waiting p false) b.is.nets ∙ w, x.runs); both = x.both; none = x.none }

  update_alike : (s : FullState) (t : State) → Beside s t → Beside (full_update net s) (after_update kept t)
  update_alike s t b = record {
    is = beside.updates s t b.good.in_range b.is;
    good = record { in_range = ranges.updates t b.good.in_range; is_consistent = consistent.updates t };
  }

  -- ---- delta cycles

  -- the standard's is quiet in s, and the other in t at once, or after one Update more
  data Quiet (s : FullState) (t : State) (k j : ℕ) : Type 0 where
    at_once : k ≡ j → Beside s t → Quiet s t k j
    later : (u : State) → k ≡ suc j → Beside s u → is_quiet s.nets ≡ true → t ≡ after_update kept u → Quiet s t k j

  record Settled (s : FullState) (t : State) (k : ℕ) : Type 0 where
    state : FullState
    orders : List (List ℕ)
    deltas : FullDeltas net orders s state
    quiet : Quiet state t k (length orders)

  one_more : (s : FullState) (t : State) (k j : ℕ) → Quiet s t k j → Quiet s t (suc k) (suc j)
  one_more s t k j (at_once e b) = at_once (ap suc e) b
  one_more s t k j (later u e b q f) = later u (ap suc e) b q f

  deltas_alike : (orders : List (List ℕ)) (s : FullState) (t u : State) → Beside s t → Deltas kept orders t u → is_quiet u ≡ true
      → ((j : ℕ) (v : State) → j < length orders → HasDeltas kept j t v → is_quiet v ≡ true → ⊥) → Settled s u (length orders)
  deltas_alike [] s t u b e q least =
      let same : Beside s u = subst (Beside s) (sym e) b in
      record { state = s; orders = []; deltas = (beside.quiet s u same.is q, refl); quiet = at_once refl same }
  deltas_alike (order ∷ orders) s t u b (mid, (ready, runs), more) q least =
      go (λ (x : Ran order (full_update net s) mid). deltas_alike orders x.state mid u x.both more q (λ j v l (os, e, d) k. least (suc j) v (omega arith) (order ∷ os, ap suc e, (mid, (ready, runs), d)) k))
      (cases_Bool (is_quiet s.nets))
    where
      -- nothing is woken, so the first cycle is an Update alone, and the last
      alone : (os : List ℕ) (v : State) → HasNoneToRun (after_update kept t) → Runs kept os (after_update kept t) v → v ≡ after_update kept t
      alone [] v none (done, e) = e
      alone (p ∷ os) v none (w, rest) = absurd (none p w)

      last : (os : List (List ℕ)) → length os ≡ length orders → Deltas kept os mid u → is_quiet mid ≡ true → u ≡ mid
      last [] l e k = e
      last (o ∷ os) l d k = absurd (least 1 mid (omega arith) (order ∷ [], refl, (mid, (ready, runs), refl)) k)

      none_left : (os : List (List ℕ)) → length os ≡ length orders → Deltas kept os mid u → is_quiet mid ≡ true → length os ≡ 0
      none_left [] l d k = refl
      none_left (o ∷ os) l d k = absurd (least 1 mid (omega arith) (order ∷ [], refl, (mid, (ready, runs), refl)) k)

      go : ((x : Ran order (full_update net s) mid) → Settled x.state u (length orders)) → (is_quiet s.nets ≡ true) ⊎ (is_quiet s.nets ≡ false) → Settled s u (suc (length orders))
      go rest (inl h) =
          let late = beside.late s t b.good.is_consistent b.is h in
          let is : mid ≡ after_update kept t = alone order mid late.1 runs in
          let still : is_quiet mid ≡ true = ap is_quiet is ∙ late.0 in
          record { state = s; orders = []; deltas = (h, refl); quiet = later t (ap suc (none_left orders refl more still)) b h (last orders refl more still ∙ is) }
      go rest (inr h) =
          let x = runs_alike order (full_update net s) (after_update kept t) mid (update_alike s t b) runs in
          let y = rest x in
          record { state = y.state; orders = order ∷ y.orders; deltas = (h, (x.state, x.runs, y.deltas)); quiet = one_more y.state u (length orders) (length y.orders) y.quiet }

  -- ---- quiet states

  abbrev m0 : ℕ
  m0 = length net.types

  -- one Update more changes no net that there was
  same_now : (s : FullState) (t : State) → Beside s t → is_quiet s.nets ≡ true → take m0 (after_update kept t).now ≡ take m0 t.now
  same_now s t b q =
      let long : m0 ≤ length (kept_flat net).start = (let a = enough net r in let d = r.each_starts in omega arith) in
      let new : length (after_update kept t).now ≡ length (kept_flat net).start = length-table (length (kept_flat net).start) _ in
      let a : length (take m0 (after_update kept t).now) ≡ m0 = length-take-le m0 (after_update kept t).now (omega arith) in
      let d : length (take m0 t.now) ≡ m0 = length-take-le m0 t.now (let e = b.good.in_range.now.each_net in omega arith) in
      same_number_lists (take m0 (after_update kept t).now) (take m0 t.now) (a ∙ sym d)
      (λ n l. let below : n < m0 = omega arith in
      get_or-take m0 (after_update kept t).now n 0 below
      ∙ consistent.keeps t n b.good.is_consistent (omega arith) (λ p place k. old_quiet net r c others s.variables t (at_old s t b) (sym (ap is_quiet b.is.nets) ∙ q) n p place below k)
      ∙ sym (get_or-take m0 t.now n 0 below))
    where
      at_old : (a : FullState) (u : State) → Beside a u → IsBeside net (record { nets = old_part net u; variables = a.variables }) u
      at_old a u d = subst (λ (x : FullState). IsBeside net x u) (λ i. record { nets = d.is.nets i; variables = a.variables }) d.is

  -- what the elements have where it is quiet
  elements_quiet : (s : FullState) (t : State) → Beside s t → is_quiet t ≡ true → (p e : ℕ) → p < length net.processes → Contains (kept_elements (process_at net p)) e
      → slice_index t.now (first_net net p + rank_in (kept_elements (process_at net p)) e) ≡ slice_index (variables_of s p) e
  elements_quiet s t b q p e l k =
      let x = b.is.elements p e l k in
      let place = length (process_at net p).drivers + rank_in (kept_elements (process_at net p)) e in
      x.net_is ∙ sym (ap (λ o. unwrap_or o (driver_at t p place)) (quiet_at t q p place)) ∙ x.variable

  -- ---- new inputs

  module _ (inputs : ℕ → ℕ) (are : AreInputs (core_netlist (kept_flat net)) inputs) where
    inputs_alike : (s : FullState) (t : State) → Beside s t → is_quiet t ≡ true → Beside (full_inputs net inputs s) (after_inputs kept inputs t)
    inputs_alike s t b q = record {
      is = beside.gives inputs s t q b.is;
      good = record { in_range = ranges.gives inputs t are b.good.in_range; is_consistent = consistent.gives inputs t b.good.is_consistent };
    }

    behind_update : (s : FullState) (u : State) → Beside s u → is_quiet s.nets ≡ true → full_inputs net inputs (full_update net s) ≡ full_inputs net inputs s
    behind_update s u b q =
        let now = ap (λ (x : State). x.now) (update_alike s u b).is.nets ∙ same_now s u b q ∙ sym (ap (λ (x : State). x.now) b.is.nets) in
        λ i. record s { nets = inputs_behind (core_netlist net) inputs s.nets q now i }

    quiet_inputs : (s : FullState) (t : State) (k j : ℕ) → Quiet s t k j → is_quiet t ≡ true → Beside (full_inputs net inputs s) (after_inputs kept inputs t)
    quiet_inputs s t k j (at_once e b) q = inputs_alike s t b q
    quiet_inputs s t k j (later u e b h f) q =
        let late = beside.late s u b.good.is_consistent b.is h in
        subst (λ (a : FullState). Beside a (after_inputs kept inputs t)) (behind_update s u b h)
        (subst (λ (x : State). Beside (full_inputs net inputs (full_update net s)) (after_inputs kept inputs x)) (sym f) (inputs_alike (full_update net s) (after_update kept u) (update_alike s u b) late.0))

  -- ---- moments

  module _ (stimulus : ℕ → ℕ → ℕ) (are : (m : ℕ) → AreInputs (core_netlist (kept_flat net)) (stimulus m)) where
    record BegunBeside (m : ℕ) (t : State) : Type 0 where
      state : FullState
      begun : FullBegun net stimulus m state
      both : Beside state t

    -- what a state settles in
    settled_alike : (s : FullState) (t u : State) (k : ℕ) → Beside s t → SettlesTo kept t k u → Settled s u k
    settled_alike s t u k b (settles, (orders, e, deltas)) =
        subst (Settled s u) e
        (deltas_alike orders s t u b deltas (settles.settled u (orders, e, deltas)) (λ j v l d q. settles.not_before j v (omega arith) d q))

    begun_alike : (m : ℕ) (t : State) → Begun kept stimulus m t → BegunBeside m t
    begun_alike zero t (order, runs) =
        let start : Beside (full_start net (stimulus 0)) (start_state kept (stimulus 0)) = record {
          is = beside.starts (stimulus 0);
          good = record { in_range = ranges.starts (stimulus 0) (are 0); is_consistent = consistent.starts (stimulus 0) };
        } in
        let x = runs_alike order (full_start net (stimulus 0)) (start_state kept (stimulus 0)) t start runs in
        record { state = x.state; begun = (order, x.runs); both = x.both }
    begun_alike (suc m) t (earlier, k, quiet, begun, settles, (order, runs)) =
        let e = begun_alike m earlier begun in
        let y = settled_alike e.state earlier quiet k e.both settles in
        let next = quiet_inputs (stimulus (suc m)) (are (suc m)) y.state quiet k (length y.orders) y.quiet (settles.0.settled quiet settles.1) in
        let x = runs_alike order (full_inputs net (stimulus (suc m)) y.state) (after_inputs kept (stimulus (suc m)) quiet) t next runs in
        record { state = x.state; begun = (e.state, y.orders, y.state, e.begun, y.deltas, (order, x.runs)); both = x.both }

    settles_alike : (m k : ℕ) (t : State) → HasSettled kept stimulus m k t → SettlesAlike net stimulus m k t
    settles_alike m k t (first, begun, settles) =
        let b = begun_alike m first begun in
        let y = settled_alike b.state first t k b.both settles in
        let q = settles.0.settled t settles.1 in
        record {
          state = y.state;
          orders = y.orders;
          settles = (b.state, b.begun, y.deltas);
          deltas = as_many y.state y.orders y.quiet;
          now = now y.state (length y.orders) y.quiet;
          elements = elements y.state (length y.orders) y.quiet q;
        }
      where
        as_many : (s : FullState) (orders : List (List ℕ)) → Quiet s t k (length orders) → (k ≡ length orders) ⊎ (k ≡ suc (length orders))
        as_many s orders (at_once e b) = inl e
        as_many s orders (later u e b h f) = inr e

        now : (s : FullState) (j : ℕ) → Quiet s t k j → s.nets.now ≡ take (length net.types) t.now
        now s j (at_once e b) = ap (λ (x : State). x.now) b.is.nets
        now s j (later u e b h f) =
            ap (λ (x : State). x.now) b.is.nets ∙ sym (same_now s u b h) ∙ ap (λ (x : State). take (length net.types) x.now) (sym f)

        elements : (s : FullState) (j : ℕ) → Quiet s t k j → is_quiet t ≡ true → (p e : ℕ) → p < length net.processes → Contains (kept_elements (process_at net p)) e
            → slice_index t.now (first_net net p + rank_in (kept_elements (process_at net p)) e) ≡ slice_index (variables_of s p) e
        elements s j (at_once e b) q = elements_quiet s t b q
        elements s j (later u e b h f) q = elements_quiet (full_update net s) t (subst (Beside (full_update net s)) (sym f) (update_alike s u b)) q

pub each_settles_alike : EachSettlesAlike
each_settles_alike net r c others stimulus are m k t settled = settles_alike net r c others stimulus are m k t settled
