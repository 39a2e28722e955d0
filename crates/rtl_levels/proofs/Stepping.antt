-- Values that come to rest are the machine's next.
use Rattle.std.proofs.Common.{◌≡◌, ℕ, ◌<◌, ◌≤◌, Bool, true, false, List, [], length, get_or, map, Option, Some, None, refl, sym, ap, subst, ◌∙◌, arith, ◌⊎◌, inl, inr, Contains, IsSome}
use Rattle.std.proofs.lemmas.Bool.{cases_Bool, cases_eq, cases_lt}
use Rattle.std.proofs.lemmas.List.{get_or_past, length-map}
use Rattle.vhdl_values.specs.declared.scalar.Nine.{Nine}
use Rattle.rtl_model.proofs.basics.Lists.{Contains-none, get_or-map_within}
use Rattle.rtl_model.specs.basics.Valuations.{entry_where}
use Rattle.rtl_model.specs.simulation.Accepted.{IsResetBy}
use Rattle.rtl_model.specs.simulation.Netlist.{Netlist, Edge, Reset, process, no_process, target, reset_entry, reset_of, resets, HasPlace, HasReset, IsCombinational, IsClockedBy, IsInput, IsDriven}
use Rattle.rtl_model.specs.simulation.NetLevels.{IsDerived}
use Rattle.rtl_model.specs.simulation.Cycle.{with_inputs}
use Rattle.rtl_model.specs.simulation.Levels.{is_clocked}
use Rattle.rtl_model.specs.simulation.Machine.{IsFirst, IsStep, entry_or, register_first, register_next}
use Rattle.rtl_model.specs.simulation.Races.{IsRace}
use Rattle.rtl_model.proofs.simulation.Held.{input_not_driven, none_or_some}
use Rattle.rtl_model.proofs.simulation.Levels.{numbered}
use Rattle.rtl_model.proofs.simulation.Numbered.{Numbered, assigned, driven_or_not}
use Rattle.rtl_model.proofs.simulation.Faultless.{place_in_range}
use Rattle.rtl_model.proofs.simulation.Solution.{length-table}
use Rattle.rtl_model.proofs.simulation.Starting.{inputs_at, others_at, target_no_input}
use Rattle.rtl_kernel.specs.wakes.Woken.{wakers_of}
use Rattle.rtl_levels.specs.declared.schedule.Schedule.{Schedule}
use Rattle.rtl_levels.specs.Kept.{AreSensitive, IsAtRest, IsPlanned}
use Rattle.rtl_levels.specs.Laws.{EdgeIsTaken}
use Rattle.rtl_levels.specs.Marks.{AreBelow, IsReader, Marks}
use Rattle.rtl_levels.specs.Running.{IsDerivedAt, IsSettledAt, behind_reset}
use Rattle.rtl_levels.specs.Scheduled.{clocked_wakes}
use Rattle.rtl_levels.specs.Steps.{ComesToRest, IsDrivenByMarked}
use Rattle.rtl_levels.proofs.Edges.{each_edge_is_taken, each_start_is_taken}
use Rattle.rtl_levels.proofs.Resets.{one_reset, resets_alike, run_settles, settled_by, settled_then}
use Rattle.rtl_levels.proofs.Settling.{one_place, one_process}

some_entry : (o : Option ℕ) (old : ℕ) → IsSome o → o ≡ Some (entry_or o old)
some_entry (Some v) old h = refl
some_entry None old h = cc

module _ (net : Netlist) (schedule : Schedule) (P : IsPlanned net schedule) where
  abbrev L : Numbered net
  L = numbered net P.elaborated P.accepted

  abbrev clocked : List (List ℕ)
  clocked = wakers_of schedule.clocked

  -- a clocked process is no combinational one
  clocked_not : (p clock : ℕ) (edge : Edge) → IsClockedBy net p clock edge → IsCombinational net p → ⊥
  clocked_not p clock edge (reset, is) c = let e = c.1 in cc

  -- a register's reset is made inside and assigns it; or doesn't assign it; or comes from outside
  which_reset : (p place : ℕ) → ((m : ℕ) × IsResetBy net p place m) ⊎ ((reset_entry (reset_of net p) place ≡ None) ⊎ ((reset : Reset) → HasReset net p reset → IsDriven net reset.net → ⊥))
  which_reset p place = go (reset_of net p) refl
    where
      go : (o : Option Reset) → reset_of net p ≡ o → ((m : ℕ) × IsResetBy net p place m) ⊎ ((reset_entry (reset_of net p) place ≡ None) ⊎ ((reset : Reset) → HasReset net p reset → IsDriven net reset.net → ⊥))
      go None e = inr (inr (λ reset has. absurd cc))
      go (Some r) e = by (driven_or_not net L r.net) (none_or_some (reset_entry (reset_of net p) place))
        where
          by : IsDriven net r.net ⊎ (IsDriven net r.net → ⊥) → (reset_entry (reset_of net p) place ≡ None) ⊎ IsSome (reset_entry (reset_of net p) place)
              → ((m : ℕ) × IsResetBy net p place m) ⊎ ((reset_entry (reset_of net p) place ≡ None) ⊎ ((reset : Reset) → HasReset net p reset → IsDriven net reset.net → ⊥))
          by (inr free) _ = inr (inr (λ reset has driven. free (subst (λ (n : ℕ). IsDriven net n) (one_reset net p reset.net r.net (reset, has, refl) (r, e, refl)) driven)))
          by (inl driven) (inl none) = inr (inl none)
          by (inl driven) (inr some) = inl (r.net, (((r, e, refl), driven), some))

  module _ (woken : List Bool) (before v w : List ℕ) (C : ComesToRest net woken before v w) where
    abbrev between : List ℕ
    between = C.between

    -- what no process drives stays
    taken_undriven : (n : ℕ) → (IsDriven net n → ⊥) → get_or between n 0 ≡ get_or v n 0
    taken_undriven n free = C.taken.on_others n (λ (p, place, m, h, t). free (p, place, h, t))

    swept_undriven : (n : ℕ) → (IsDriven net n → ⊥) → get_or w n 0 ≡ get_or between n 0
    swept_undriven n free = C.swept.on_others n (λ (p, place, h, t, d). free (p, place, h, t))

    undriven : (n : ℕ) → (IsDriven net n → ⊥) → get_or w n 0 ≡ get_or v n 0
    undriven n free = swept_undriven n free ∙ taken_undriven n free

    inputs_stay : (n : ℕ) → IsInput net n → get_or w n 0 ≡ get_or v n 0
    inputs_stay n is = undriven n (λ d. input_not_driven net L n is d)

    module _ (p place clock : ℕ) (edge : Edge) (is : IsClockedBy net p clock edge) (h : HasPlace net p place) where
      abbrev t : ℕ
      t = target net p place

      -- nor what a clocked process drives that isn't run
      asleep : get_or woken p false ≡ false → get_or between t 0 ≡ get_or v t 0
      asleep none = C.taken.on_others t other
        where
          other : IsDrivenByMarked net woken t → ⊥
          other (q, at, m, has, e) = let f = rw (one_process net L q p at place has h e) at none in cc

      stays : (IsDerivedAt net p place → ⊥) → get_or w t 0 ≡ get_or between t 0
      stays not = C.swept.on_others t other
        where
          other : IsDerived net t → ⊥
          other (q, at, has, e, d) =
              let same = one_process net L q p at place has h e in
              let has' = subst (λ (x : ℕ). HasPlace net x at) (sym same) has in
              let here = one_place net L p at place has' h (subst (λ (x : ℕ). target net x at ≡ t) (sym same) e) in
              not (subst (λ (k : ℕ). IsDerivedAt net p k) here (subst (λ (x : ℕ). IsDerivedAt net x at) (sym same) d))

      -- what its register has then, and its reset in w, give what it has in w
      pub reset_read : (((reset : Reset) → HasReset net p reset → get_or between reset.net 0 ≡ get_or v reset.net 0) → IsSettledAt net between p place)
          → get_or w t 0 ≡ behind_reset net w p place (get_or between t 0)
      reset_read settled = by (which_reset p place)
        where
          none_behind : (holds : Bool) (x : ℕ) → x ≡ entry_or (entry_where holds None) x
          none_behind true x = refl
          none_behind false x = refl

          by : ((m : ℕ) × IsResetBy net p place m) ⊎ ((reset_entry (reset_of net p) place ≡ None) ⊎ ((reset : Reset) → HasReset net p reset → IsDriven net reset.net → ⊥))
              → get_or w t 0 ≡ behind_reset net w p place (get_or between t 0)
          by (inl (m, R)) = C.swept.on_resets p place m R h
          by (inr (inl none)) = stays not ∙ none_behind _ (get_or between t 0) ∙ ap (λ (o : Option ℕ). entry_or (entry_where (resets (reset_of net p) (λ n. get_or w n 0)) o) (get_or between t 0)) (sym none)
            where
              not : IsDerivedAt net p place → ⊥
              not (inl c) = clocked_not p clock edge is c
              not (inr (m, R)) = let some = R.1 in cc
          by (inr (inr free)) =
              stays not ∙ sym (settled_then net p P.elaborated clock edge is between place (settled (λ reset has. taken_undriven reset.net (free reset has))))
              ∙ ap (λ (b : Bool). entry_or (entry_where b (reset_entry (reset_of net p) place)) (get_or between t 0))
              (resets_alike net p (λ n. get_or between n 0) (λ n. get_or w n 0) (λ reset has. sym (swept_undriven reset.net (free reset has))))
            where
              not : IsDerivedAt net p place → ⊥
              not (inl c) = clocked_not p clock edge is c
              not (inr (m, R)) = let (reset, has, at) = R.0.0 in free reset has (subst (λ (n : ℕ). IsDriven net n) (sym at) R.0.1)

      -- if it has run
      pub run_read : get_or woken p false ≡ true → get_or w t 0 ≡ behind_reset net w p place (entry_or (get_or ((process net p).effect before v) place None) (get_or v t 0))
      run_read m =
          reset_read (λ same. run_settles net p P.elaborated clock edge is before v between place (get_or v t 0) (resets_alike net p (λ n. get_or between n 0) (λ n. get_or v n 0) same) (C.taken.on_targets p place m h))
          ∙ ap (behind_reset net w p place) (C.taken.on_targets p place m h)

    -- what a combinational process drives has its entry
    entry_there : (p place : ℕ) → IsCombinational net p → HasPlace net p place → get_or ((process net p).effect w w) place None ≡ Some (get_or w (target net p place) 0)
    entry_there p place c h = some_entry (get_or ((process net p).effect w w) place None) (get_or w (target net p place) 0) (assigned net L p place w w c h) ∙ ap (λ (x : ℕ). Some x) (C.swept.settled p c place h)

  -- ---- a step

  -- a clocked process is a reader of what it is sensitive to
  pub clocked_follows : (p n clock : ℕ) (edge : Edge) → IsClockedBy net p clock edge → p < length net.processes → Contains (process net p).wakes n → IsReader clocked n p
  clocked_follows p n clock edge (reset, is) l c =
      let k : is_clocked (process net p).kind ≡ true = ap is_clocked is in
      let row : get_or (map clocked_wakes net.processes) p [] ≡ (process net p).wakes = get_or-map_within clocked_wakes net.processes p no_process [] l ∙ rw k refl in
      P.schedule.clocked_are.all_are_in p n (subst (λ (xs : List ℕ). Contains xs n) (sym row) c)

  -- those readers are clocked
  woken_are_clocked : (n p : ℕ) → IsReader clocked n p → IsCombinational net p → ⊥
  woken_are_clocked n p f (l, is) =
      let k : is_clocked (process net p).kind ≡ false = ap is_clocked is in
      let row : get_or (map clocked_wakes net.processes) p [] ≡ [] = get_or-map_within clocked_wakes net.processes p no_process [] l ∙ rw k refl in
      let (j, within, e) = subst (λ (xs : List ℕ). Contains xs n) row (P.schedule.clocked_are.no_other n p f) in
      absurd (omega (arith, within))

  pub woken_clocked : (cs : List (ℕ × Nine)) (woken : List Bool) → AreSensitive clocked cs woken → (p : ℕ) → get_or woken p false ≡ true → IsCombinational net p → ⊥
  woken_clocked cs woken S p m c = let (n, _, f) = S.readers p m in woken_are_clocked n p f c

  -- and processes
  pub clocked_below : (many : ℕ) → many ≡ length net.processes → AreBelow clocked many
  clocked_below many is n p f = by (cases_lt p (length net.processes))
    where
      by : (p < length net.processes) ⊎ (length net.processes ≤ p) → p < many
      by (inl l) = rw is l
      by (inr l) = absurd (Contains-none n (subst (λ (xs : List ℕ). Contains xs n) (get_or_past (map clocked_wakes net.processes) p [] (rw length-map l)) (P.schedule.clocked_are.no_other n p f)))

  module _ (before v : List ℕ) (R : IsAtRest net before v) (inputs : ℕ → ℕ) (no_race : IsRace net (λ n. get_or v n 0) inputs → ⊥)
      (now w : List ℕ) (now_is : now ≡ with_inputs net inputs v) (idle woken : List Bool) (nets : ℕ → Type 0) (M : Marks clocked nets v now idle woken) (C : ComesToRest net woken before now w) where
    each_net : length v ≡ length net.start
    each_net = R.solves.each_net

    now_input : (n : ℕ) → IsInput net n → get_or now n 0 ≡ inputs n
    now_input n is = ap (λ (u : List ℕ). get_or u n 0) now_is ∙ inputs_at net P.elaborated inputs v n is

    now_other : (n : ℕ) → (IsInput net n → ⊥) → get_or now n 0 ≡ get_or v n 0
    now_other n not = ap (λ (u : List ℕ). get_or u n 0) now_is ∙ others_at net inputs v n each_net not

    -- without a mark nothing that it is sensitive to has changed
    unchanged : (p n clock : ℕ) (edge : Edge) → IsClockedBy net p clock edge → p < length net.processes → get_or woken p false ≡ false → Contains (process net p).wakes n → get_or v n 0 ≡ get_or now n 0
    unchanged p n clock edge is l none wakes = by (cases_eq (get_or v n 0) (get_or now n 0))
      where
        by : (get_or v n 0 ≡ get_or now n 0) ⊎ (get_or v n 0 ≡ get_or now n 0 → ⊥) → get_or v n 0 ≡ get_or now n 0
        by (inl e) = e
        by (inr differs) = let h = M.readers_marked n p differs (clocked_follows p n clock edge is l wakes) in cc

    next : (p place clock : ℕ) (edge : Edge) → IsClockedBy net p clock edge → HasPlace net p place → get_or w (target net p place) 0 ≡ register_next net p place clock edge v inputs w
    next p place clock edge is h = by (cases_Bool (get_or woken p false))
      where
        l : p < length net.processes
        l = place_in_range net p place h

        t : ℕ
        t = target net p place

        E : EdgeIsTaken net v inputs w p clock edge
        E = each_edge_is_taken net P.elaborated P.accepted v each_net R.resets inputs no_race w p clock edge is

        stood : get_or now t 0 ≡ get_or v t 0
        stood = now_other t (target_no_input net L p place h)

        by : (get_or woken p false ≡ true) ⊎ (get_or woken p false ≡ false) → get_or w t 0 ≡ register_next net p place clock edge v inputs w
        by (inl m) =
            run_read woken before now w C p place clock edge is h m
            ∙ ap (λ (x : ℕ). behind_reset net w p place (entry_or (get_or ((process net p).effect before now) place None) x)) stood
            ∙ ap (λ (u : List ℕ). behind_reset net w p place (entry_or (get_or ((process net p).effect before u) place None) (get_or v t 0))) now_is
            ∙ E.taken before place (R.no_event clock (L.faultless.clock_is_input p clock edge is))
        by (inr none) =
            let same = unchanged p clock clock edge is l none (L.faultless.clock_wakes p clock edge is) ∙ now_input clock (L.faultless.clock_is_input p clock edge is) in
            let still : net.edge edge (get_or v clock 0) (inputs clock) ≡ false = ap (λ (x : ℕ). net.edge edge (get_or v clock 0) x) (sym same) ∙ P.elaborated.values.edges_differ edge (get_or v clock 0) in
            let kept : get_or C.between t 0 ≡ get_or v t 0 = asleep woken before now w C p place clock edge is h none ∙ stood in
            let reset_same = λ (reset : Reset) (has : HasReset net p reset). unchanged p reset.net clock edge is l none (L.faultless.reset_wakes p reset has) in
            reset_read woken before now w C p place clock edge is h
            (λ undriven. settled_by net p P.elaborated clock edge is C.between place
            (ap (behind_reset net C.between p place) kept
            ∙ ap (λ (b : Bool). entry_or (entry_where b (reset_entry (reset_of net p) place)) (get_or v t 0))
            (resets_alike net p (λ n. get_or C.between n 0) (λ n. get_or v n 0) (λ reset has. undriven reset has ∙ sym (reset_same reset has)))
            ∙ settled_then net p P.elaborated clock edge is v place (R.resets p clock edge is place h)
            ∙ sym kept))
            ∙ ap (behind_reset net w p place) kept
            ∙ E.left place h still (λ reset has. reset_same reset has ∙ ap (λ (u : List ℕ). get_or u reset.net 0) now_is)

    pub is_step : IsStep net v inputs w
    is_step = record {
      registers = λ n. get_or w n 0;
      next = next;
      solves = record {
        each_net = C.swept.each_net ∙ C.taken.each_net ∙ ap length now_is ∙ length-table (length net.start) _;
        on_inputs = λ n i. inputs_stay woken before now w C n i ∙ now_input n i;
        on_registers = λ p place clock edge is h. refl;
        on_others = λ n l not free. undriven woken before now w C n free ∙ now_other n not ∙ R.solves.on_others n l not free;
        on_combinational = entry_there woken before now w C;
      };
    }

  -- ---- the first moment

  module _ (inputs : ℕ → ℕ) (woken : List Bool) (all_woken : (p clock : ℕ) (edge : Edge) → IsClockedBy net p clock edge → get_or woken p false ≡ true)
      (now w : List ℕ) (now_is : now ≡ with_inputs net inputs net.start) (C : ComesToRest net woken now now w) where
    first_next : (p place clock : ℕ) (edge : Edge) → IsClockedBy net p clock edge → HasPlace net p place → get_or w (target net p place) 0 ≡ register_first net p place inputs w
    first_next p place clock edge is h =
        let t = target net p place in
        let stood : get_or now t 0 ≡ get_or net.start t 0 = ap (λ (u : List ℕ). get_or u t 0) now_is ∙ others_at net inputs net.start t refl (target_no_input net L p place h) in
        run_read woken now now w C p place clock edge is h (all_woken p clock edge is)
        ∙ ap (λ (x : ℕ). behind_reset net w p place (entry_or (get_or ((process net p).effect now now) place None) x)) stood
        ∙ ap (λ (u : List ℕ). behind_reset net w p place (entry_or (get_or ((process net p).effect now u) place None) (get_or net.start t 0))) now_is
        ∙ each_start_is_taken net P.elaborated P.accepted inputs p clock place edge now w is (ap (λ (u : List ℕ). get_or u clock 0) now_is)

    pub is_first : IsFirst net inputs w
    is_first = record {
      registers = λ n. get_or w n 0;
      next = first_next;
      solves = record {
        each_net = C.swept.each_net ∙ C.taken.each_net ∙ ap length now_is ∙ length-table (length net.start) _;
        on_inputs = λ n i. inputs_stay woken now now w C n i ∙ ap (λ (u : List ℕ). get_or u n 0) now_is ∙ inputs_at net P.elaborated inputs net.start n i;
        on_registers = λ p place clock edge is h. refl;
        on_others = λ n l not free. undriven woken now now w C n free ∙ ap (λ (u : List ℕ). get_or u n 0) now_is ∙ others_at net inputs net.start n refl not;
        on_combinational = entry_there woken now now w C;
      };
    }
