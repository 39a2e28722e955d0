-- A machine's step keeps what holds of it.
use Rattle.std.proofs.Common.{◌≡◌, ℕ, ◌<◌, ◌≤◌, Bool, true, false, List, [], length, get_or, Option, sym, ap, ◌∙◌, arith, ◌⊎◌, inl, inr, Contains, All}
use Rattle.std.specs.Prelude.{⊤}
use Rattle.std.proofs.lemmas.Bool.{cases_lt}
use Rattle.std.proofs.lemmas.List.{get_or_past, length-map}
use Rattle.vhdl_values.specs.declared.scalar.Nine.{Nine}
use Rattle.rtl_model.specs.nets.CoreNetlist.{core_netlist}
use Rattle.rtl_model.specs.nets.FlatNetlist.{FlatNetlist, IsInRange}
use Rattle.rtl_model.specs.simulation.Levels.{is_clocked}
use Rattle.rtl_model.specs.simulation.Netlist.{Netlist, Edge, Process, no_process, target, IsClockedBy, IsCombinational, IsInput}
use Rattle.rtl_model.specs.simulation.Cycle.{with_changes, with_inputs}
use Rattle.rtl_model.specs.simulation.Machine.{IsFirst, IsStep, entry_or}
use Rattle.rtl_model.specs.simulation.Races.{IsRace}
use Rattle.rtl_model.specs.simulation.Range.{IsValuation}
use Rattle.rtl_model.proofs.simulation.Faultless.{Faultless, faultless, kinds_below}
use Rattle.rtl_model.proofs.simulation.Levels.{numbered}
use Rattle.rtl_model.proofs.simulation.Starting.{inputs_at, others_at, target_no_input}
use Rattle.rtl_net_groups.specs.Touching.{Chunks}
use Rattle.rtl_kernel.specs.kernel.Simulation.{changes_of}
use Rattle.rtl_kernel.specs.values.TwoValues.{AreChanged}
use Rattle.rtl_kernel.specs.wakes.Woken.{wakers_of}
use Rattle.rtl_kernel.proofs.Changing.{given_values}
use Rattle.rtl_kernel.proofs.Inputs.{inputs_there, named}
use Rattle.rtl_levels.specs.declared.schedule.Schedule.{Schedule}
use Rattle.rtl_levels.specs.declared.state.State.{State}
use Rattle.rtl_levels.specs.Kept.{AreSensitive, AreSettledOrToCome, IsMachine, IsPlanned, IsStateOf}
use Rattle.rtl_levels.specs.Marks.{AllAreReaders, HasNoMark, IsGiven, Marks}
use Rattle.rtl_levels.specs.Running.{IsDerivedAt, IsSettledAt}
use Rattle.rtl_levels.specs.Scheduled.{are_clocked}
use Rattle.rtl_levels.specs.States.{Advances}
use Rattle.rtl_levels.specs.Steps.{ComesToRest}
use Rattle.rtl_levels.proofs.Awake.{clash}
use Rattle.rtl_levels.proofs.Changed.{changed_alike, changed_in_range}
use Rattle.rtl_levels.proofs.Coming.{stays_or_comes}
use Rattle.rtl_levels.proofs.Edges.{each_reset_is_kept}
use Rattle.rtl_levels.proofs.Advancing.{still_state}
use Rattle.rtl_levels.proofs.Clocks.{told_clocked}
use Rattle.rtl_levels.proofs.Resets.{reset_clocks}
use Rattle.rtl_levels.proofs.Settling.{each_stays_settled}
use Rattle.rtl_levels.proofs.Stepping as stepping

-- ---- a step

pub changes_there : (flat : FlatNetlist) → IsInRange flat → (cs : List (ℕ × Nine)) → All (λ (c : ℕ × Nine). Contains flat.inputs c.0) cs → (u : List ℕ) → length u ≡ length flat.start
    → All (λ (c : ℕ × Nine). c.0 < length u) cs
changes_there flat R cs inputs u as_many = λ k d l. rw (as_many ∙ R.each_starts) (inputs_there flat R cs inputs k d l)

-- changes of inputs, from a machine whose marks of chunks have been taken off
module _ (flat : FlatNetlist) (R : IsInRange flat) (schedule : Schedule) (before : List ℕ) (state : State) (woken ran : List Bool) (K : IsMachine (core_netlist flat) schedule before state woken ran)
    (cs : List (ℕ × Nine)) (inputs : All (λ (c : ℕ × Nine). Contains flat.inputs c.0) cs) (t : Chunks) (many : t.nets ≡ state.touched.nets) where
  abbrev net : Netlist
  net = core_netlist flat

  abbrev v : List ℕ
  v = state.values.items

  abbrev given : ℕ → ℕ
  given = with_changes (changes_of cs) v

  pub forgotten : IsStateOf net schedule (record state { touched = t })
  forgotten = record { in_range = K.state_is.in_range; each_rank = K.state_is.each_rank; each_chunk = many ∙ K.state_is.each_chunk }

  module _ (now : State) (A : AreChanged (changes_of cs) v now.values.items) (F : Advances schedule.readers (λ n. ⊤) (record state { touched = t }) now) where
    now_is : now.values.items ≡ with_inputs net given v
    now_is = given_values net (changes_of cs) v now.values.items K.at_rest.solves.each_net A (named flat R cs inputs)

    pub state_now : IsStateOf net schedule now
    state_now = still_state net schedule (λ n. ⊤) (record state { touched = t }) now forgotten F (changed_in_range flat R cs inputs v now.values.items K.state_is.in_range A)

    -- what the new inputs may unsettle has a visit to come
    pub settled_now : AreSettledOrToCome net schedule 0 now
    settled_now P p place d h =
        stays_or_comes net schedule P (λ n. ⊤) v now.values.items state.dirty.items now.dirty.items F.marks 0 (λ n k other l above. omega arith) p place d h
        (λ agree. inl (each_stays_settled net P.elaborated p place v now.values.items d h (settled d) agree
        (ap (λ (u : List ℕ). get_or u (target net p place) 0) now_is
        ∙ others_at net given v (target net p place) K.at_rest.solves.each_net (target_no_input net (numbered net P.elaborated P.accepted) p place h))))
      where
        settled : IsDerivedAt net p place → IsSettledAt net v p place
        settled (inl c) = ap (λ (o : Option ℕ). entry_or o (get_or v (target net p place) 0)) (K.at_rest.solves.on_combinational p place c h)
        settled (inr (m, R)) = let (clock, edge, is) = reset_clocks net p R.0.0.0 R.0.0.1 in K.at_rest.resets p clock edge is place h

    module _ (woken' : List Bool) (W : Marks (wakers_of schedule.clocked) (IsGiven (changes_of cs)) v now.values.items woken woken') where
      pub sensitive_now : AreSensitive (wakers_of schedule.clocked) cs woken'
      sensitive_now = record { there = λ k d l. rw (K.planned.each_clocked ∙ R.each_starts) (inputs_there flat R cs inputs k d l); readers = λ p h. by p (W.no_other p h) }
        where
          by : (p : ℕ) → (get_or woken p false ≡ true) ⊎ ((n : ℕ) × IsGiven (changes_of cs) n × Contains (get_or (wakers_of schedule.clocked) n []) p)
              → (n : ℕ) × IsGiven (changes_of cs) n × Contains (get_or (wakers_of schedule.clocked) n []) p
          by p (inl old) = absurd (clash old (K.none_woken p))
          by p (inr f) = f

      module _ (no_race : IsRace net (λ n. get_or v n 0) given → ⊥) (w : State) (C : ComesToRest net woken' before now.values.items w.values.items) where
        pub is_step : IsStep net v given w.values.items
        is_step = stepping.is_step net schedule K.planned before v K.at_rest given no_race now.values.items w.values.items now_is woken woken' (IsGiven (changes_of cs)) W C

        pub kept : (before' : List ℕ) (woken'' ran'' : List Bool) → IsStateOf net schedule w → AreChanged (changes_of cs) before before' → length woken'' ≡ length net.processes → length ran'' ≡ length woken''
            → HasNoMark w.dirty.items → HasNoMark woken'' → HasNoMark ran'' → IsMachine net schedule before' w woken'' ran''
        kept before' woken'' ran'' S B each_process each_ran none_dirty none_woken none_ran = record {
          planned = K.planned;
          state_is = S;
          at_rest = record {
            inputs = given;
            registers = is_step.registers;
            solves = is_step.solves;
            resets = (each_reset_is_kept net K.planned.elaborated K.planned.accepted given w.values.items).step v is_step;
            before_in_range = changed_in_range flat R cs inputs before before' K.at_rest.before_in_range B;
            no_event = λ n is. B.each n
                ∙ changed_alike (changes_of cs) before v n (K.at_rest.before_in_range.each_net ∙ sym K.at_rest.solves.each_net) (K.at_rest.no_event n is)
                ∙ sym (is_step.solves.on_inputs n is);
          };
          each_process = each_process;
          each_ran = each_ran;
          none_dirty = none_dirty;
          none_woken = none_woken;
          none_ran = none_ran;
        }

-- ---- the first moment

-- the marks of the clocked processes
module _ (net : Netlist) where
  pub clocked_marked : (p clock : ℕ) (edge : Edge) → IsClockedBy net p clock edge → get_or (are_clocked net) p false ≡ true
  clocked_marked p clock edge (reset, is) = by (cases_lt p (length net.processes))
    where
      by : (p < length net.processes) ⊎ (length net.processes ≤ p) → get_or (are_clocked net) p false ≡ true
      by (inl l) = told_clocked net p l ∙ ap is_clocked is
      by (inr l) = let e = ap (λ (q : Process). q.kind) (get_or_past net.processes p no_process l) in cc

  marked_clocked : (p : ℕ) → get_or (are_clocked net) p false ≡ true → IsCombinational net p → ⊥
  marked_clocked p h c = let f = told_clocked net p c.0 ∙ ap is_clocked c.1 in cc

  -- those follow their clocks, which are inputs
  pub marked_follow : (schedule : Schedule) → IsPlanned net schedule → (given : ℕ → Type 0) → ((n : ℕ) → IsInput net n → given n)
      → AllAreReaders (wakers_of schedule.clocked) given (are_clocked net)
  marked_follow schedule P given inputs p h = by (cases_lt p (length net.processes))
    where
      F : Faultless net
      F = faultless net P.accepted

      kind : p < length net.processes → IsCombinational net p ⊎ ((clock : ℕ) × (edge : Edge) × IsClockedBy net p clock edge) → (n : ℕ) × given n × Contains (get_or (wakers_of schedule.clocked) n []) p
      kind l (inl c) = absurd (marked_clocked p h c)
      kind l (inr (clock, edge, is)) = (
        clock,
        inputs clock (F.clock_is_input p clock edge is),
        stepping.clocked_follows net schedule P p clock clock edge is l (F.clock_wakes p clock edge is),
      )

      by : (p < length net.processes) ⊎ (length net.processes ≤ p) → (n : ℕ) × given n × Contains (get_or (wakers_of schedule.clocked) n []) p
      by (inl l) = kind l (kinds_below net F p l)
      by (inr l) = absurd (clash h (get_or_past (are_clocked net) p false (rw length-map l)))

module _ (net : Netlist) (schedule : Schedule) (P : IsPlanned net schedule) (given : ℕ → ℕ) (now : List ℕ) (now_is : now ≡ with_inputs net given net.start) (in_range : IsValuation net now) where
  pub kept_first : (state : State) (woken ran : List Bool) → IsFirst net given state.values.items → IsStateOf net schedule state → length woken ≡ length net.processes → length ran ≡ length woken
      → HasNoMark state.dirty.items → HasNoMark woken → HasNoMark ran → IsMachine net schedule now state woken ran
  kept_first state woken ran F S each_process each_ran none_dirty none_woken none_ran = record {
    planned = P;
    state_is = S;
    at_rest = record {
      inputs = given;
      registers = F.registers;
      solves = F.solves;
      resets = (each_reset_is_kept net P.elaborated P.accepted given state.values.items).first F;
      before_in_range = in_range;
      no_event = λ n is. ap (λ (u : List ℕ). get_or u n 0) now_is ∙ inputs_at net P.elaborated given net.start n is ∙ sym (F.solves.on_inputs n is);
    };
    each_process = each_process;
    each_ran = each_ran;
    none_dirty = none_dirty;
    none_woken = none_woken;
    none_ran = none_ran;
  }
