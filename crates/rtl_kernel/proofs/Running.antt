-- The steps of a kernel are those of rtl_model.
use Rattle.std.proofs.Common.{◌≡◌, ℕ, zero, suc, ◌<◌, ◌≤◌, false, List, [], ◌∷◌, length, get_or, set, map, Option, None, refl, sym, ap, ◌∙◌, arith, ◌⊎◌, inl, inr}
use Rattle.std.proofs.lemmas.Bool.{cases_eq}
use Rattle.std.proofs.lemmas.List.{get_or-set_same, get_or-set_other, length-set, length-map, length-replicate, map-set, set-get_or}
use Rattle.std.proofs.lemmas.List.FromFn.{length-map-range_with_len}
use Rattle.rtl_model.specs.nets.FlatNetlist.{FlatNetlist, FlatProcess, process_at}
use Rattle.rtl_model.specs.nets.CoreNetlist.{core_netlist, part_effect}
use Rattle.rtl_model.specs.simulation.Netlist.{Process, process}
use Rattle.rtl_model.specs.simulation.Cycle.{State, over, all_driver_values, resumed_processes, after_update, after_inputs, with_inputs, after_run}
use Rattle.rtl_model.proofs.basics.Lists.{get_or-map_within}
use Rattle.rtl_model.proofs.nets.Processes.{process-core_net}
use Rattle.rtl_drives.specs.Outcomes.{Outcome}
use Rattle.rtl_eval.specs.Runs.{IsOf, Leaves}
use Rattle.rtl_kernel.specs.drivers.Transactions.{Transactions, IsActive, HasRunOf, pending_of, without_entries, no_outcome}
use Rattle.rtl_kernel.specs.kernel.Kept.{HaveRoom, state_of}
use Rattle.rtl_kernel.specs.values.TwoValues.{TwoValues}
use Rattle.rtl_kernel.specs.wakes.ToRun.{ToRun}
use Rattle.rtl_kernel.proofs.Steps.{over_fresh, over_nothing}
use Rattle.rtl_kernel.proofs.Updating.{pending_without}

-- an outcome that a run of its own process has left
own_ran : (q : FlatProcess) (entries : List (Option ℕ)) (old new : Outcome) → length entries ≡ length q.drivers → IsOf q old → Leaves entries old new → IsOf q new
own_ran q entries old new many own L = record {
  each_driver = ap length L.entries_are ∙ many;
  each_element = L.starts_stay ∙ own.each_element;
}

module _ {E : Type 0} (most : E → ℕ) (net : FlatNetlist) (bodies : List E) where
  pub room_ran : (p : ℕ) (entries : List (Option ℕ)) (old new : List Outcome) → length entries ≡ length (process_at net p).drivers → p < length old
      → HasRunOf entries p old new → HaveRoom most net bodies old → HaveRoom most net bodies new
  room_ran p entries old new many there R H = rw R.is (record {
    as_many = length-set old p R.outcome ∙ H.as_many;
    own = λ q l. own q (rw length-set at l) (cases_eq q p);
    room = λ q e l. room q e l (cases_eq q p);
  })
    where
      own : (q : ℕ) → q < length old → (q ≡ p) ⊎ (q ≡ p → ⊥) → IsOf (process_at net q) (get_or (set old p R.outcome) q no_outcome)
      own q l (inl e) = rw (e, get_or-set_same old p R.outcome no_outcome there) (own_ran (process_at net p) entries (get_or old p no_outcome) R.outcome many (H.own p there) R.leaves)
      own q l (inr n) = rw (get_or-set_other old p q R.outcome no_outcome n) (H.own q l)

      room : (q : ℕ) (e : E) → q < length bodies → (q ≡ p) ⊎ (q ≡ p → ⊥) → most (get_or bodies q e) ≤ (get_or (set old p R.outcome) q no_outcome).room
      room q e l (inl f) = rw (f, get_or-set_same old p R.outcome no_outcome there, R.leaves.room_stays) (H.room p e (rw (← f) l))
      room q e l (inr n) = rw (get_or-set_other old p q R.outcome no_outcome n) (H.room q e l)

  get_or-taken : (outcomes : List Outcome) (q : ℕ) → get_or (map without_entries outcomes) q no_outcome ≡ without_entries (get_or outcomes q no_outcome)
  get_or-taken [] q = refl
  get_or-taken (o ∷ outcomes) zero = refl
  get_or-taken (o ∷ outcomes) (suc q) = get_or-taken outcomes q

  pub room_taken : (old new : List Outcome) → new ≡ map without_entries old → HaveRoom most net bodies old → HaveRoom most net bodies new
  room_taken old new is H = rw is (record {
    as_many = length-map old without_entries ∙ H.as_many;
    own = λ q l. rw (get_or-taken old q) (record {
      each_driver = length-replicate (length (get_or old q no_outcome).entries) None ∙ (H.own q (rw length-map at l)).each_driver;
      each_element = (H.own q (rw length-map at l)).each_element;
    });
    room = λ q e l. rw (get_or-taken old q) (H.room q e l);
  })

module _ (net : FlatNetlist) (v : TwoValues) (t : Transactions) (r : ToRun) where
  abbrev state : State
  state = state_of v t r

  pub effect_is : (p : ℕ) (q : FlatProcess) → q ≡ process_at net p → part_effect q q.body v.before v.current ≡ (process (core_netlist net) p).effect v.before v.current
  effect_is p q is =
      ap (λ (x : FlatProcess). part_effect x x.body v.before v.current) is
      ∙ sym (ap (λ (x : Process). x.effect v.before v.current) (process-core_net net p))

  pub effect_length : (q : FlatProcess) → length (part_effect q q.body v.before v.current) ≡ length q.drivers
  effect_length q = length-map-range_with_len _ 0 (length q.drivers)

  pub state_ran : (t' : Transactions) (r' : ToRun) (p : ℕ) (q : FlatProcess) → q ≡ process_at net p → p < length t.outcomes → IsOf q (get_or t.outcomes p no_outcome)
      → (IsActive (pending_of t.outcomes) p → ⊥) → t'.drivers ≡ t.drivers → HasRunOf (part_effect q q.body v.before v.current) p t.outcomes t'.outcomes
      → r'.waiting ≡ set r.waiting p false → state_of v t' r' ≡ after_run (core_netlist net) p state
  state_ran t' r' p q q_is there own fresh drivers R waiting =
      let effect = part_effect q q.body v.before v.current in
      let row = get_or-map_within (λ (x : Outcome). x.entries) t.outcomes p no_outcome [] there in
      let short = ap length row ∙ own.each_driver ∙ sym (effect_length q) in
      let over_row = over_fresh effect (get_or (pending_of t.outcomes) p []) (omega (arith, short)) (λ place some. fresh (place, some)) in
      let pending : pending_of t'.outcomes ≡ set (pending_of t.outcomes) p (over ((process (core_netlist net) p).effect v.before v.current) (get_or (pending_of t.outcomes) p [])) =
      ap pending_of R.is ∙ map-set (λ (x : Outcome). x.entries) t.outcomes p R.outcome ∙ ap (set (pending_of t.outcomes) p) (R.leaves.entries_are ∙ sym over_row)
      ∙ ap (λ (e : List (Option ℕ)). set (pending_of t.outcomes) p (over e (get_or (pending_of t.outcomes) p []))) (effect_is p q q_is) in
      λ i. record { before = v.before; now = v.current; drivers = drivers i; pending = pending i; waiting = waiting i }

  -- one that assigns nothing has run where it is taken off
  pub state_asleep : (r' : ToRun) (p : ℕ) → p < length t.outcomes → IsOf (process_at net p) (get_or t.outcomes p no_outcome)
      → ((place : ℕ) → get_or ((process (core_netlist net) p).effect v.before v.current) place None ≡ None) → r'.waiting ≡ set r.waiting p false
      → state_of v t r' ≡ after_run (core_netlist net) p state
  state_asleep r' p there own nothing waiting =
      let effect = (process (core_netlist net) p).effect v.before v.current in
      let row = get_or (pending_of t.outcomes) p [] in
      let row_long = ap length (get_or-map_within (λ (x : Outcome). x.entries) t.outcomes p no_outcome [] there) ∙ own.each_driver in
      let effect_long : length effect ≡ length (process_at net p).drivers = sym (ap length (effect_is p (process_at net p) refl)) ∙ effect_length (process_at net p) in
      let pending : pending_of t.outcomes ≡ set (pending_of t.outcomes) p (over effect row) =
      sym (ap (set (pending_of t.outcomes) p) (over_nothing effect row (omega (arith, row_long, effect_long)) nothing) ∙ set-get_or (pending_of t.outcomes) p []) in
      λ i. record { before = v.before; now = v.current; drivers = t.drivers; pending = pending i; waiting = waiting i }

  pub state_updated : (v' : TwoValues) (t' : Transactions) (r' : ToRun) → v'.before ≡ v.current → v'.current ≡ (after_update (core_netlist net) state).now
      → t'.drivers ≡ all_driver_values (pending_of t.outcomes) t.drivers → t'.outcomes ≡ map without_entries t.outcomes
      → r'.waiting ≡ resumed_processes (core_netlist net) v'.before v'.current → state_of v' t' r' ≡ after_update (core_netlist net) state
  state_updated v' t' r' before now drivers outcomes waiting =
      let pending = ap pending_of outcomes ∙ pending_without t.outcomes in
      let wakes = waiting ∙ ap (λ (b : List ℕ). resumed_processes (core_netlist net) b v'.current) before ∙ ap (resumed_processes (core_netlist net) v.current) now in
      λ i. record { before = before i; now = now i; drivers = drivers i; pending = pending i; waiting = wakes i }

  pub state_given : (v' : TwoValues) (r' : ToRun) (inputs : ℕ → ℕ) → v'.before ≡ v.current → v'.current ≡ with_inputs (core_netlist net) inputs v.current
      → r'.waiting ≡ resumed_processes (core_netlist net) v'.before v'.current → state_of v' t r' ≡ after_inputs (core_netlist net) inputs state
  state_given v' r' inputs before now waiting =
      let wakes = waiting ∙ ap (λ (b : List ℕ). resumed_processes (core_netlist net) b v'.current) before ∙ ap (resumed_processes (core_netlist net) v.current) now in
      λ i. record { before = before i; now = now i; drivers = t.drivers; pending = pending_of t.outcomes; waiting = wakes i }
