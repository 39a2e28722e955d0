-- Each moment settles within the bound, in the machine's valuation.
use Rattle.std.proofs.Common.{◌≡◌, ℕ, zero, suc, ◌+◌, ◌≤◌, Bool, true, false, not, ◌||◌, cond, List, get_or, Option, Some, None, refl, sym, ap, ◌∙◌, arith, ◌⊎◌, inl, inr, subst, IsSome, IsTrue, Contains, ◌&&◌}
use Rattle.std.specs.List.{list_any}
use Rattle.std.specs.Option.{is_some}
use Rattle.std.proofs.lemmas.Bool.{cases_eq, cases_Bool, cond-true, cond-false, and_parts}
use Rattle.rtl_model.proofs.basics.Lists.{any_at, get_or_default, none_at}
use Rattle.rtl_model.proofs.simulation.Faultless.{faultless, kinds, kinds_below}
use Rattle.rtl_model.proofs.simulation.Orders.{one_number}
use Rattle.rtl_model.specs.simulation.Netlist.{Edge, HasPlace, IsClockedBy, IsCombinational, IsInput, kind_reset, Netlist, no_process, process, Process, Reset, reset_entry, reset_of, resets, holds_back, sources_of, target}
use Rattle.rtl_model.specs.simulation.Cycle.{after_inputs, is_quiet, start_state, State}
use Rattle.rtl_model.specs.simulation.Moments.{Begun, HasDeltas, HasNoneToRun, HasSettled, SettlesIn, SettlesTo}
use Rattle.rtl_model.specs.simulation.Accepted.{IsAccepted, IsClock}
use Rattle.rtl_model.specs.simulation.Levels.{has_clocked, has_late_reset, is_clocked, is_driver}
use Rattle.rtl_model.specs.simulation.Races.{HasNoRace}
use Rattle.rtl_model.specs.simulation.Machine.{entry_or, IsFirst, IsStep, Solves}
use Rattle.rtl_model.specs.simulation.Laws.{EachCalmNetKeeps, EachMomentComes, HasNoReset, IsTheMachine, SettlesInBound}
use Rattle.rtl_model.proofs.simulation.Order.{finished, HasRun-finished, HasRun-done}
use Rattle.rtl_model.proofs.simulation.Levels.{by_levels, extra, greatest_is, numbered, outer_resets}
use Rattle.rtl_model.proofs.simulation.NetLevels.{by_nets, greatest_by_nets}
use Rattle.rtl_model.specs.simulation.NetLevels.{ByProcesses, ByNets}
use Rattle.rtl_model.proofs.simulation.Rows.{transaction, value, out, quiet_at}
use Rattle.rtl_model.proofs.simulation.Deltas.{after, HasDeltas-after, settles_within, runs_exist}
use Rattle.rtl_model.proofs.simulation.Numbered.{Numbered}
use Rattle.rtl_model.proofs.simulation.Runs.{Machine, Machine-run}
use Rattle.rtl_model.proofs.simulation.Held.{Holds, IsAbove, IsSeen, after_holds, no_edge_entry, quiet_after}
use Rattle.rtl_model.specs.simulation.Calm.{IsCalm}
use Rattle.rtl_model.proofs.simulation.Beginning.{Begins}
use Rattle.rtl_model.proofs.simulation.Keeping.{calm_keeps, register_settled}
use Rattle.rtl_model.proofs.simulation.Starting.{first, start_holds, start_begins, start_asleep}
use Rattle.rtl_model.proofs.simulation.Stepping.{next_holds, next_begins}

-- how many cycles later than the levels say a moment after 0 may settle
abbrev pub late : Netlist → ℕ
late net = cond (has_clocked net) 1 0

no_clocked : (net : Netlist) → has_clocked net ≡ false → (p clock : ℕ) (edge : Edge) → IsClockedBy net p clock edge → ⊥
no_clocked net e p clock edge is =
    let a = none_at (λ (q : Process). is_clocked q.kind) net.processes p no_process e refl in
    let b : is_clocked (process net p).kind ≡ true = ap is_clocked is.1 in
    cc

late_clocked : (net : Netlist) (p clock : ℕ) (edge : Edge) → IsClockedBy net p clock edge → 1 ≤ late net
late_clocked net p clock edge is = go (cases_Bool (has_clocked net))
  where
    go : (has_clocked net ≡ true) ⊎ (has_clocked net ≡ false) → 1 ≤ late net
    go (inl has) = let one : late net ≡ 1 = cond-true _ _ _ has in omega arith
    go (inr none) = absurd (no_clocked net none p clock edge is)

process_of : (net : Netlist) (x : Process) → Contains net.processes x → (p : ℕ) × (process net p ≡ x)
process_of net x (p, l, e) = (p, get_or_default net.processes p no_process x l ∙ e)

no_late_reset : (net : Netlist) → HasNoReset net → has_late_reset net ≡ true → ⊥
no_late_reset net none t =
    let (x, c, both) = any_at (λ (q : Process). is_some (kind_reset q.kind) && list_any (λ n. list_any is_driver (sources_of net n)) q.wakes) net.processes t in
    let (p, e) = process_of net x c in
    go p x e (kind_reset x.kind) refl (and_parts _ _ both).0
  where
    go : (p : ℕ) (x : Process) → process net p ≡ x → (o : Option Reset) → kind_reset x.kind ≡ o → is_some (kind_reset x.kind) ≡ true → ⊥
    go p x e None r t = cc
    go p x e (Some reset) r t = none p reset (ap (λ (q : Process). kind_reset q.kind) e ∙ r)

module _ (net : Netlist) (L : Numbered net) where
  above_start : (s : State) → IsAbove net L 0 (late net) s
  above_start s = record { runs = λ p place l some. runs p (kinds_below net L.faultless p l); changes = λ p place h. inl (changes p place h (kinds net L.faultless p place h)) }
    where
      runs : (p : ℕ) → IsCombinational net p ⊎ ((clock : ℕ) × (edge : Edge) × IsClockedBy net p clock edge) → 0 + 1 ≤ L.of_process p + late net
      runs p (inl c) = let k = L.process_from_one p c in omega arith
      runs p (inr (clock, edge, is)) = let k = late_clocked net p clock edge is in omega arith

      changes : (p place : ℕ) → HasPlace net p place → IsCombinational net p ⊎ ((clock : ℕ) × (edge : Edge) × IsClockedBy net p clock edge) → 0 + 1 ≤ L.of_net (target net p place) + late net
      changes p place h (inl c) = let k = L.from_one p place c h in omega arith
      changes p place h (inr (clock, edge, is)) = let k = late_clocked net p clock edge is in omega arith

  above_first : (inputs : ℕ → ℕ) → HasNoReset net → IsAbove net L 0 0 (finished net (first net L inputs))
  above_first inputs none = record { runs = λ p place l some. runs p place some (kinds_below net L.faultless p l); changes = λ p place h. changes p place h (kinds net L.faultless p place h) }
    where
      runs : (p place : ℕ) → IsSome (transaction (finished net (first net L inputs)) p place) → IsCombinational net p ⊎ ((clock : ℕ) × (edge : Edge) × IsClockedBy net p clock edge) → 0 + 1 ≤ L.of_process p + 0
      runs p place some (inl c) = let k = L.process_from_one p c in omega arith
      runs p place some (inr (clock, edge, is)) = let e = start_asleep net L inputs none p place clock edge is in absurd cc

      changes : (p place : ℕ) → HasPlace net p place → IsCombinational net p ⊎ ((clock : ℕ) × (edge : Edge) × IsClockedBy net p clock edge)
          → (0 + 1 ≤ L.of_net (target net p place) + 0) ⊎ (out (finished net (first net L inputs)) p place ≡ value (finished net (first net L inputs)) p place)
      changes p place h (inl c) = let k = L.from_one p place c h in inl (omega arith)
      changes p place h (inr (clock, edge, is)) = inr (ap (λ (o : Option ℕ). entry_or o (value (first net L inputs) p place)) (start_asleep net L inputs none p place clock edge is))

  -- what is quiet solves
  module _ (inputs : ℕ → ℕ) (r : ℕ → ℕ → ℕ) (Seen : List ℕ → Type 0) (t : State) (H : Holds net inputs r Seen t) (Q : is_quiet t ≡ true) where
    now_out : (p place : ℕ) → HasPlace net p place → get_or t.now (target net p place) 0 ≡ out t p place
    now_out p place h = H.on_driven p place h ∙ ap (λ (o : Option ℕ). entry_or o (value t p place)) (sym (quiet_at t Q p place))

    pub quiet_solves : Solves net inputs (λ n. get_or t.now n 0) t.now
    quiet_solves = record {
      each_net = H.now_length;
      on_inputs = H.on_inputs;
      on_registers = λ p place clock edge is h. refl;
      on_others = H.on_others;
      on_combinational = λ p place c h. H.on_combinational p place c h ∙ ap (λ (x : ℕ). Some x) (sym (now_out p place h));
    }

  module _ (stimulus : ℕ → ℕ → ℕ) where
    -- what holds after the first cycle of a moment, whatever the orders before
    record AtMoment (m : ℕ) (s : State) : Type 0 where
      r : ℕ → ℕ → ℕ
      holds : Holds net (stimulus m) r (IsSeen net s) s
      above : IsAbove net L 0 (late net) s

    -- what has settled
    settled_quiet : (s t : State) (k : ℕ) → SettlesTo net s k t → is_quiet t ≡ true
    settled_quiet s t k (set, deltas) = set.settled t deltas

    settled_holds : (m : ℕ) (s t : State) (k : ℕ) (a : AtMoment m s) → SettlesTo net s k t → Holds net (stimulus m) a.r (IsSeen net s) t
    settled_holds m s t k a to = subst (λ (u : State). Holds net (stimulus m) a.r (IsSeen net s) u) (sym (HasDeltas-after net k s t to.1)) (after_holds net L (stimulus m) a.r (IsSeen net s) k s (λ j. (j, refl)) a.holds)

    at_moment : (m : ℕ) (s : State) → Begun net stimulus m s → AtMoment m s
    at_moment zero s run =
        let e = HasRun-finished net (start_state net (stimulus 0)) s run in
        subst (λ (u : State). AtMoment 0 u) (sym e) (record { r = λ p place. out (finished net (start_state net (stimulus 0))) p place; holds = start_holds net L (stimulus 0); above = above_start _ })
    at_moment (suc m) s (earlier, k, quiet, begun, to, run) =
        let a = at_moment m earlier begun in
        let H = settled_holds m earlier quiet k a to in
        let Q = settled_quiet earlier quiet k to in
        let e = HasRun-finished net (after_inputs net (stimulus (suc m)) quiet) s run in
        subst (λ (u : State). AtMoment (suc m) u) (sym e) (record {
          r = λ p place. out (finished net (after_inputs net (stimulus (suc m)) quiet)) p place;
          holds = next_holds net L (stimulus m) (stimulus (suc m)) a.r (IsSeen net earlier) quiet H Q;
          above = above_start _;
        })

    begun_done : (m : ℕ) (s : State) → Begun net stimulus m s → HasNoneToRun s
    begun_done zero s run = HasRun-done net _ s run
    begun_done (suc m) s (earlier, k, quiet, begun, to, run) = HasRun-done net _ s run

    settles : (m : ℕ) (s : State) → Begun net stimulus m s → (k : ℕ) × SettlesIn net s k × (k ≤ L.greatest + late net)
    settles m s begun =
        let a = at_moment m s begun in
        settles_within net s (L.greatest + late net) (begun_done m s begun) (quiet_after net L (stimulus m) a.r (IsSeen net s) (late net) s (λ j. (j, refl)) a.holds a.above)

    settles_first : HasNoReset net → (s : State) → Begun net stimulus 0 s → (k : ℕ) × SettlesIn net s k × (k ≤ L.greatest + 0)
    settles_first none s run =
        let a = at_moment 0 s run in
        let e = HasRun-finished net (start_state net (stimulus 0)) s run in
        let above = subst (λ (u : State). IsAbove net L 0 0 u) (sym e) (above_first (stimulus 0) none) in
        settles_within net s (L.greatest + 0) (HasRun-done net _ s run) (quiet_after net L (stimulus 0) a.r (IsSeen net s) 0 s (λ j. (j, refl)) a.holds above)

    settles_both : (m : ℕ) (s : State) → Begun net stimulus m s → (k : ℕ) × SettlesIn net s k × (k ≤ L.greatest + late net) × (m ≡ 0 → HasNoReset net → k ≤ L.greatest)
    settles_both zero s run =
        let (k, set, l) = settles 0 s run in
        (k, set, l, λ e none. let (j, first, l') = settles_first none s run in let same = one_number net s k j set first in omega arith)
    settles_both (suc m) s begun = let (k, set, l) = settles (suc m) s begun in (k, set, l, λ e none. absurd (omega arith))

    -- ---- without races

    no_race : (m : ℕ) → HasNoRace net stimulus (suc m) → (p clock : ℕ) (edge : Edge) → IsClockedBy net p clock edge → IsTrue (net.edge edge (stimulus m clock) (stimulus (suc m) clock)) → (n : ℕ) → IsInput net n → (IsClock net n → ⊥) → stimulus m n ≡ stimulus (suc m) n
    no_race m none p clock edge is e n input data' = go (cases_eq (stimulus m n) (stimulus (suc m) n))
      where
        go : (stimulus m n ≡ stimulus (suc m) n) ⊎ (stimulus m n ≡ stimulus (suc m) n → ⊥) → stimulus m n ≡ stimulus (suc m) n
        go (inl h) = h
        go (inr h) = absurd (none (suc m) (omega arith) (record { process = p; clock = clock; edge = edge; clocked = is; active = e; input = n; is_input = input; no_clock = data'; changes = h }))

    -- a moment, as it begins
    record Moment (m : ℕ) (s : State) : Type 0 where
      r : ℕ → ℕ → ℕ
      old : List ℕ
      edge_comes : ℕ → Edge → Bool
      begins : Begins net edge_comes r old s
      holds : Holds net (stimulus m) r (IsSeen net s) s

    moment : (m : ℕ) → HasNoRace net stimulus m → (s : State) → Begun net stimulus m s → Moment m s
    moment zero none s run = subst (λ (u : State). Moment 0 u) (sym (HasRun-finished net (start_state net (stimulus 0)) s run)) (record {
      r = λ p place. out (finished net (start_state net (stimulus 0))) p place;
      old = net.start;
      edge_comes = λ clock edge. false;
      begins = start_begins net L (stimulus 0);
      holds = start_holds net L (stimulus 0);
    })
    moment (suc m) none s (earlier, k, quiet, begun, to, run) =
        let a = at_moment m earlier begun in
        let H = settled_holds m earlier quiet k a to in
        let Q = settled_quiet earlier quiet k to in
        subst (λ (u : State). Moment (suc m) u) (sym (HasRun-finished net (after_inputs net (stimulus (suc m)) quiet) s run)) (record {
          r = λ p place. out (finished net (after_inputs net (stimulus (suc m)) quiet)) p place;
          old = quiet.now;
          edge_comes = λ clock edge. net.edge edge (get_or quiet.now clock 0) (stimulus (suc m) clock);
          begins = next_begins net L (stimulus m) (stimulus (suc m)) a.r (IsSeen net earlier) quiet H Q (no_race m none);
          holds = next_holds net L (stimulus m) (stimulus (suc m)) a.r (IsSeen net earlier) quiet H Q;
        })

    module _ (A : IsAccepted net) where
      calm_net_keeps : (m : ℕ) → HasNoRace net stimulus m → (s mid t : State) (j k : ℕ) → Begun net stimulus m s → HasDeltas net j s mid → SettlesTo net s k t → (n : ℕ) (these : ℕ → Bool) → IsCalm net n these → these (get_or mid.now n 0) ≡ true
          → (these (get_or s.now n 0) ≡ true) ⊎ (these (get_or t.now n 0) ≡ true)
      calm_net_keeps m none s mid t j k begun deltas to n these calm h =
          let M = moment m none s begun in
          let e = HasDeltas-after net k s t to.1 in
          subst (λ (u : State). (these (get_or s.now n 0) ≡ true) ⊎ (these (get_or u.now n 0) ≡ true)) (sym e)
          (calm_keeps net L A (stimulus m) M.edge_comes M.r M.old s M.begins M.holds k (subst (λ (u : State). is_quiet u ≡ true) e (settled_quiet s t k to)) n these calm j (subst (λ (u : State). these (get_or u.now n 0) ≡ true) (HasDeltas-after net j s mid deltas) h))

      -- what settles at the start, and later
      first_settles : (k : ℕ) (t : State) → SettlesTo net (finished net (start_state net (stimulus 0))) k t → IsFirst net (stimulus 0) t.now
      first_settles k t to =
          let s = finished net (start_state net (stimulus 0)) in
          let r = λ (p : ℕ) (place : ℕ). out s p place in
          let H = start_holds net L (stimulus 0) in
          let e = HasDeltas-after net k s t to.1 in
          let Q = subst (λ (u : State). is_quiet u ≡ true) e (settled_quiet s t k to) in
          subst (λ (u : State). IsFirst net (stimulus 0) u.now) (sym e) (record {
            registers = λ n. get_or (after net k s).now n 0;
            next = λ p place clock edge is h. register_settled net L A (stimulus 0) (λ clock edge. false) r net.start s (start_begins net L (stimulus 0)) H k Q p place clock edge is h
                ∙ ap (λ (o : Option ℕ). entry_or o (get_or net.start (target net p place) 0))
                (no_edge_entry (resets (reset_of net p) (λ n. get_or s.now n 0) || resets (reset_of net p) (λ n. get_or (after net k s).now n 0)) false (not (holds_back (reset_of net p) (λ n. get_or s.now n 0))) (reset_entry (reset_of net p) place) (get_or ((process net p).acting_effect net.start) place None) refl);
            solves = quiet_solves (stimulus 0) r (IsSeen net s) (after net k s) (after_holds net L (stimulus 0) r (IsSeen net s) k s (λ j. (j, refl)) H) Q;
          })

      step_settles : (m : ℕ) → HasNoRace net stimulus (suc m) → (earlier quiet : State) (j : ℕ) (begun : Begun net stimulus m earlier) → SettlesTo net earlier j quiet
          → (k : ℕ) (t : State) → SettlesTo net (finished net (after_inputs net (stimulus (suc m)) quiet)) k t → IsStep net quiet.now (stimulus (suc m)) t.now
      step_settles m none earlier quiet j begun before k t to =
          let a = at_moment m earlier begun in
          let was = settled_holds m earlier quiet j a before in
          let P = settled_quiet earlier quiet j before in
          let s = finished net (after_inputs net (stimulus (suc m)) quiet) in
          let r = λ (p : ℕ) (place : ℕ). out s p place in
          let H = next_holds net L (stimulus m) (stimulus (suc m)) a.r (IsSeen net earlier) quiet was P in
          let e = HasDeltas-after net k s t to.1 in
          let Q = subst (λ (u : State). is_quiet u ≡ true) e (settled_quiet s t k to) in
          subst (λ (u : State). IsStep net quiet.now (stimulus (suc m)) u.now) (sym e) (record {
            registers = λ n. get_or (after net k s).now n 0;
            next = λ p place clock edge is h.
                register_settled net L A (stimulus (suc m)) (λ clock edge. net.edge edge (get_or quiet.now clock 0) (stimulus (suc m) clock)) r quiet.now s (next_begins net L (stimulus m) (stimulus (suc m)) a.r (IsSeen net earlier) quiet was P (no_race m none)) H k Q p place clock edge is h;
            solves = quiet_solves (stimulus (suc m)) r (IsSeen net s) (after net k s) (after_holds net L (stimulus (suc m)) r (IsSeen net s) k s (λ j. (j, refl)) H) Q;
          })

      machine : (m : ℕ) → HasNoRace net stimulus m → (s t : State) (k : ℕ) → Begun net stimulus m s → SettlesTo net s k t → Machine net stimulus m t.now
      machine zero none s t k run to = first_settles k t (subst (λ (u : State). SettlesTo net u k t) (HasRun-finished net (start_state net (stimulus 0)) s run) to)
      machine (suc m) none s t k (earlier, j, quiet, begun, before, run) to = (
        quiet.now,
        machine m (λ i l. none i (omega arith)) earlier quiet j begun before,
        step_settles m none earlier quiet j begun before k t (subst (λ (u : State). SettlesTo net u k t) (HasRun-finished net (after_inputs net (stimulus (suc m)) quiet) s run) to),
      )

    comes : (m : ℕ) → (s : State) × Begun net stimulus m s
    comes zero = let (order, runs) = runs_exist net (start_state net (stimulus 0)) in (finished net (start_state net (stimulus 0)), (order, runs))
    comes (suc m) =
        let (earlier, begun) = comes m in
        let (k, set, le) = settles m earlier begun in
        let (quiet, deltas) = set.goes_on in
        (finished net (after_inputs net (stimulus (suc m)) quiet), (earlier, k, quiet, begun, (set, deltas), runs_exist net (after_inputs net (stimulus (suc m)) quiet)))

    has_settled : (m : ℕ) → (k : ℕ) × (t : State) × HasSettled net stimulus m k t
    has_settled m =
        let (s, begun) = comes m in
        let (k, set, le) = settles m s begun in
        let (t, deltas) = set.goes_on in
        (k, t, (s, begun, (set, deltas)))

-- without a reset none is late
none_extra : (net : Netlist) → HasNoReset net → extra net ≡ 0
none_extra net none = go (cases_Bool (has_late_reset net))
  where
    go : (has_late_reset net ≡ true) ⊎ (has_late_reset net ≡ false) → extra net ≡ 0
    go (inl t) = absurd (no_late_reset net none t)
    go (inr f) = cond-false _ _ _ f

pub settles_in_bound : SettlesInBound
settles_in_bound net greatest most E A (ByProcesses levels judged V is) stimulus m s begun =
    let outer = outer_resets net E judged in
    let (k, set, l, first) = settles_both net (by_levels net E (faultless net A) outer levels greatest V) stimulus m s begun in
    let g = greatest_is net E (faultless net A) outer levels greatest V in
    (k, set, omega arith, λ e none. let at = first e none in let zero = none_extra net none in omega arith)
settles_in_bound net greatest most E A (ByNets levels nets judged V is) stimulus m s begun =
    let (k, set, l, first) = settles_both net (by_nets net E (faultless net A) levels nets greatest V) stimulus m s begun in
    let g = greatest_by_nets net E (faultless net A) levels nets greatest V in
    (k, set, omega arith, λ e none. let at = first e none in omega arith)

pub is_the_machine : IsTheMachine
is_the_machine net E A stimulus m none k t (s, begun, to) v run =
    let L = numbered net E A in
    Machine-run net L stimulus v run m t.now (machine net L stimulus A m none s t k begun to)

pub each_moment_comes : EachMomentComes
each_moment_comes net E A stimulus m = has_settled net (numbered net E A) stimulus m

pub each_calm_net_keeps : EachCalmNetKeeps
each_calm_net_keeps net E A stimulus m none s mid t j k begun deltas to n these calm h = calm_net_keeps net (numbered net E A) stimulus A m none s mid t j k begun deltas to n these calm h
