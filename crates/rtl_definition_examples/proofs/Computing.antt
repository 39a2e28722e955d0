-- Counts of delta cycles, computed.
use Rattle.std.proofs.Common.{◌≡◌, ℕ, zero, suc, ◌<◌, ◌≤◌, Bool, true, not, ◌&&◌, sym, subst, arith}
use Rattle.std.proofs.lemmas.Bool.{and_parts, not-true}
use Rattle.rtl_model.specs.simulation.Netlist.{Netlist}
use Rattle.rtl_model.specs.simulation.Cycle.{State, start_state, after_inputs, is_quiet}
use Rattle.rtl_model.specs.simulation.Moments.{HasNoneToRun, SettlesIn, IsUnsettled, Begun, HasSettled}
use Rattle.rtl_model.proofs.simulation.Order.{finished, finished_done}
use Rattle.rtl_model.proofs.simulation.Deltas.{after, after_delta, deltas_exist, HasDeltas-after, runs_exist}

-- k is the least number of delta cycles after which s is quiet
abbrev pub is_least : Netlist → ℕ → State → Bool
is_least net zero s = is_quiet s
is_least net (suc k) s = not (is_quiet s) && is_least net k (after_delta net s)

-- s is quiet after no number of delta cycles up to k
abbrev pub is_busy : Netlist → ℕ → State → Bool
is_busy net zero s = not (is_quiet s)
is_busy net (suc k) s = not (is_quiet s) && is_busy net k (after_delta net s)

least_quiet : (net : Netlist) (k : ℕ) (s : State) → is_least net k s ≡ true → is_quiet (after net k s) ≡ true
least_quiet net zero s e = e
least_quiet net (suc k) s e = least_quiet net k (after_delta net s) (and_parts (not (is_quiet s)) (is_least net k (after_delta net s)) e).1

least_before : (net : Netlist) (k : ℕ) (s : State) → is_least net k s ≡ true → (j : ℕ) → j < k → is_quiet (after net j s) ≡ true → ⊥
least_before net zero s e j l q = absurd (omega arith)
least_before net (suc k) s e zero l q = let f = not-true (is_quiet s) (and_parts (not (is_quiet s)) (is_least net k (after_delta net s)) e).0 in cc
least_before net (suc k) s e (suc j) l q = least_before net k (after_delta net s) (and_parts (not (is_quiet s)) (is_least net k (after_delta net s)) e).1 j (omega arith) q

busy_at : (net : Netlist) (k : ℕ) (s : State) → is_busy net k s ≡ true → (j : ℕ) → j ≤ k → is_quiet (after net j s) ≡ true → ⊥
busy_at net zero s e zero l q = let f = not-true (is_quiet s) e in cc
busy_at net zero s e (suc j) l q = absurd (omega arith)
busy_at net (suc k) s e zero l q = let f = not-true (is_quiet s) (and_parts (not (is_quiet s)) (is_busy net k (after_delta net s)) e).0 in cc
busy_at net (suc k) s e (suc j) l q = busy_at net k (after_delta net s) (and_parts (not (is_quiet s)) (is_busy net k (after_delta net s)) e).1 j (omega arith) q

pub settles_by : (net : Netlist) (s : State) (k : ℕ) → HasNoneToRun s → is_least net k s ≡ true → SettlesIn net s k
settles_by net s k done e = record {
  ready = done;
  goes_on = (after net k s, deltas_exist net k s done);
  settled = λ t r. subst (λ (u : State). is_quiet u ≡ true) (sym (HasDeltas-after net k s t r)) (least_quiet net k s e);
  not_before = λ j t l r q. least_before net k s e j l (subst (λ (u : State). is_quiet u ≡ true) (HasDeltas-after net j s t r) q);
}

pub unsettled_by : (net : Netlist) (s : State) (k : ℕ) → HasNoneToRun s → is_busy net k s ≡ true → IsUnsettled net s k (after net k s)
unsettled_by net s k done e = record {
  ready = done;
  never = λ j l settles.
      let (t, r) = settles.goes_on in
      busy_at net k s e j l (subst (λ (u : State). is_quiet u ≡ true) (HasDeltas-after net j s t r) (settles.settled t r));
  leads = deltas_exist net k s done;
}

-- the states after a moment's first cycle, and after k delta cycles from there
abbrev pub first_cycle : Netlist → (ℕ → ℕ) → State
first_cycle net inputs = finished net (start_state net inputs)

abbrev pub next_cycle : Netlist → (ℕ → ℕ) → State → State
next_cycle net inputs t = finished net (after_inputs net inputs t)

pub starts_in : (net : Netlist) (stimulus : ℕ → ℕ → ℕ) (k : ℕ) → is_least net k (first_cycle net (stimulus 0)) ≡ true → HasSettled net stimulus 0 k (after net k (first_cycle net (stimulus 0)))
starts_in net stimulus k e =
    let s = first_cycle net (stimulus 0) in
    let done = finished_done net (start_state net (stimulus 0)) in
    (s, runs_exist net (start_state net (stimulus 0)), (settles_by net s k done e, deltas_exist net k s done))

pub goes_on : (net : Netlist) (stimulus : ℕ → ℕ → ℕ) (m j : ℕ) (t : State) (k : ℕ) → HasSettled net stimulus m j t → is_least net k (next_cycle net (stimulus (suc m)) t) ≡ true
    → HasSettled net stimulus (suc m) k (after net k (next_cycle net (stimulus (suc m)) t))
goes_on net stimulus m j t k (earlier, begun, to) e =
    let s = next_cycle net (stimulus (suc m)) t in
    let done = finished_done net (after_inputs net (stimulus (suc m)) t) in
    (s, (earlier, j, t, begun, to, runs_exist net (after_inputs net (stimulus (suc m)) t)), (settles_by net s k done e, deltas_exist net k s done))

pub begins_next : (net : Netlist) (stimulus : ℕ → ℕ → ℕ) (m j : ℕ) (t : State) → HasSettled net stimulus m j t → Begun net stimulus (suc m) (next_cycle net (stimulus (suc m)) t)
begins_next net stimulus m j t (earlier, begun, to) = (earlier, j, t, begun, to, runs_exist net (after_inputs net (stimulus (suc m)) t))
