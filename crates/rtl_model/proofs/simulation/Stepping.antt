-- What holds after a cycle of new inputs, given to a quiet state.
use Rattle.std.proofs.Common.{◌≡◌, ℕ, Bool, true, false, not, ◌&&◌, List, length, get_or, Option, Some, None, refl, sym, ap, ◌∙◌, ◌⊎◌, inl, inr, IsTrue, ◌==◌}
use Rattle.std.specs.List.{list_any}
use Rattle.std.proofs.lemmas.List.FromFn.{length-map-range_with_len}
use Rattle.std.proofs.lemmas.Bool.{cases_Bool}
use Rattle.rtl_model.proofs.basics.Lists.{any_true}
use Rattle.rtl_model.specs.basics.Valuations.{AgreeOn, clocked_entry, entry_where, has_event}
use Rattle.rtl_model.proofs.simulation.Numbered.{Numbered}
use Rattle.rtl_model.specs.simulation.Netlist.{Edge, HasPlace, IsClockedBy, IsInput, Netlist, process, reset_entry, reset_of, resets, holds_back, target}
use Rattle.rtl_model.specs.simulation.Cycle.{after_inputs, is_quiet, State}
use Rattle.rtl_model.specs.simulation.Accepted.{IsClock}
use Rattle.rtl_model.specs.simulation.Machine.{entry_or}
use Rattle.rtl_model.proofs.simulation.Order.{finished, waits, row_after}
use Rattle.rtl_model.proofs.simulation.Faultless.{place_in_range}
use Rattle.rtl_model.proofs.simulation.Solution.{length-table}
use Rattle.rtl_model.proofs.simulation.Rows.{value, out, quiet_at, resumed_at, differs_event}
use Rattle.rtl_model.specs.simulation.Calm.{IsFromOutside}
use Rattle.rtl_model.proofs.simulation.Beginning.{Begins}
use Rattle.rtl_model.proofs.simulation.Held.{clocked_awake, no_edge_entry, over_branch, ran_asleep, reset_asleep, reset_awake, Holds, IsSeen, IsFresh, no_edge_same, combinational_ran}
use Rattle.rtl_model.proofs.simulation.Starting.{inputs_at, others_at, target_no_input}

module _ (net : Netlist) (L : Numbered net) where
  -- new inputs, given to a quiet state
  module _ (was inputs : ℕ → ℕ) (r : ℕ → ℕ → ℕ) (Seen : List ℕ → Type 0) (t : State) (H : Holds net was r Seen t) (Q : is_quiet t ≡ true) where
    abbrev pub next : State
    next = after_inputs net inputs t

    next_fresh : IsFresh net next
    next_fresh = record { rows = H.pend_length; none = quiet_at t Q }

    quiet_out : (p place : ℕ) → out t p place ≡ value t p place
    quiet_out p place = ap (λ (o : Option ℕ). entry_or o (value t p place)) (quiet_at t Q p place)

    pub next_driven : (p place : ℕ) → HasPlace net p place → get_or next.now (target net p place) 0 ≡ get_or t.now (target net p place) 0
    next_driven p place h = others_at net inputs t.now (target net p place) H.now_length (target_no_input net L p place h)

    -- whether a reset holds then, and what a process that sleeps then has
    abbrev pub resets_next : ℕ → Bool
    resets_next p = resets (reset_of net p) (λ n. get_or next.now n 0)

    asleep_out : (p place : ℕ) → waits next p ≡ false → out (finished net next) p place ≡ value t p place
    asleep_out p place w = ap (λ (o : Option ℕ). entry_or o (value t p place)) (ran_asleep net next p place next_fresh w)

    -- a reset that holds and wakes nobody has been laid over its registers before
    asleep_kept : (p place clock : ℕ) (edge : Edge) → IsClockedBy net p clock edge → HasPlace net p place → waits next p ≡ false → resets_next p ≡ true → entry_or (reset_entry (reset_of net p) place) (value t p place) ≡ value t p place
    asleep_kept p place clock edge is h w holds =
        let held = sym (reset_asleep net L t.now next.now p (sym (resumed_at net t.now next.now p) ∙ w)) ∙ holds in
        ap (entry_or (reset_entry (reset_of net p) place)) (sym (quiet_out p place)) ∙ H.reset_kept p place clock edge is h held ∙ quiet_out p place

    -- whether the branch under the edge runs then, and what it gives
    abbrev edge_acts : ℕ → ℕ → Edge → Bool
    edge_acts p clock edge = net.edge edge (get_or next.before clock 0) (get_or next.now clock 0) && not (holds_back (reset_of net p) (λ n. get_or next.now n 0))

    abbrev branch_entry : ℕ → ℕ → Option ℕ
    branch_entry p place = get_or ((process net p).acting_effect next.now) place None

    next_kept : (p place clock : ℕ) (edge : Edge) → IsClockedBy net p clock edge → HasPlace net p place → resets_next p ≡ true
        → entry_or (reset_entry (reset_of net p) place) (out (finished net next) p place) ≡ out (finished net next) p place
    next_kept p place clock edge is h holds = go (cases_Bool (waits next p))
      where
        go : (waits next p ≡ true) ⊎ (waits next p ≡ false) → entry_or (reset_entry (reset_of net p) place) (out (finished net next) p place) ≡ out (finished net next) p place
        go (inl w) =
            let e : out (finished net next) p place ≡ entry_or (clocked_entry (resets_next p) (edge_acts p clock edge) (reset_entry (reset_of net p) place) (branch_entry p place)) (value t p place)
            = ap (λ (o : Option ℕ). entry_or o (value t p place)) (clocked_awake net L next p place clock edge next_fresh is (place_in_range net p place h) w) in
            let laid = e ∙ ap (λ (b : Bool). entry_or (clocked_entry b (edge_acts p clock edge) (reset_entry (reset_of net p) place) (branch_entry p place)) (value t p place)) holds in
            ap (entry_or (reset_entry (reset_of net p) place)) laid ∙ over_branch (reset_entry (reset_of net p) place) (edge_acts p clock edge) (branch_entry p place) (value t p place) ∙ sym laid
        go (inr w) = ap (entry_or (reset_entry (reset_of net p) place)) (asleep_out p place w) ∙ asleep_kept p place clock edge is h w holds ∙ sym (asleep_out p place w)

    pub next_holds : Holds net inputs (λ p place. out (finished net next) p place) (IsSeen net (finished net next)) (finished net next)
    next_holds = record {
      now_length = length-table _ _;
      pend_length = length-map-range_with_len (row_after net next) 0 (length next.pending) ∙ H.pend_length;
      row_lengths = H.row_lengths;
      on_inputs = λ n is. inputs_at net L.elaborated inputs t.now n is;
      on_others = λ n l after_inputs free. others_at net inputs t.now n H.now_length after_inputs ∙ H.on_others n l after_inputs free;
      on_driven = λ p place h. next_driven p place h ∙ H.on_driven p place h;
      on_combinational = λ p place c h. combinational_ran net L next p place next_fresh refl c h (H.on_combinational p place c h ∙ ap (λ (x : ℕ). Some x) (quiet_out p place));
      on_clocked = λ p place clock edge is h. inl refl;
      reset_kept = next_kept;
    }

    -- what a register is assigned, reading its reset as the inputs come, and its branch before
    abbrev pub next_entry : (p place clock : ℕ) → Edge → Option ℕ
    next_entry p place clock edge =
        clocked_entry (resets_next p) (net.edge edge (get_or t.now clock 0) (inputs clock) && not (holds_back (reset_of net p) (λ n. get_or next.now n 0))) (reset_entry (reset_of net p) place) (get_or ((process net p).acting_effect t.now) place None)

    -- and has so after the first cycle
    pub next_register : ((p clock : ℕ) (edge : Edge) → IsClockedBy net p clock edge → IsTrue (net.edge edge (was clock) (inputs clock)) → (n : ℕ) → IsInput net n → (IsClock net n → ⊥) → was n ≡ inputs n)
        → (p place clock : ℕ) (edge : Edge) → IsClockedBy net p clock edge → HasPlace net p place
        → out (finished net next) p place ≡ entry_or (next_entry p place clock edge) (get_or t.now (target net p place) 0)
    next_register no_race p place clock edge is h = whole (cases_Bool (net.edge edge (get_or t.now clock 0) (inputs clock))) ∙ ap (entry_or (next_entry p place clock edge)) old
      where
        now_clock : get_or next.now clock 0 ≡ inputs clock
        now_clock = inputs_at net L.elaborated inputs t.now clock (L.faultless.clock_is_input p clock edge is)

        was_clock : get_or t.now clock 0 ≡ was clock
        was_clock = H.on_inputs clock (L.faultless.clock_is_input p clock edge is)

        old : value t p place ≡ get_or t.now (target net p place) 0
        old = sym (H.on_driven p place h)

        agree : IsTrue (net.edge edge (get_or t.now clock 0) (inputs clock)) → AgreeOn (process net p).acting_reads next.now t.now
        agree e n reads = at (cases_Bool (list_any (λ m. m == n) net.inputs))
          where
            at : (list_any (λ m. m == n) net.inputs ≡ true) ⊎ (list_any (λ m. m == n) net.inputs ≡ false) → get_or next.now n 0 ≡ get_or t.now n 0
            at (inl input) =
                inputs_at net L.elaborated inputs t.now n input
                ∙ sym (H.on_inputs n input ∙ no_race p clock edge is (rw was_clock at e) n input (λ (c : IsClock net n). L.faultless.no_clock_as_data p clock c.0 n edge c.1.0 is c.1.1 reads))
            at (inr not_input) = others_at net inputs t.now n H.now_length (λ (i : IsInput net n). cc)

        without_edge : net.edge edge (get_or t.now clock 0) (inputs clock) ≡ false → next_entry p place clock edge ≡ entry_where (resets_next p) (reset_entry (reset_of net p) place)
        without_edge e = no_edge_entry (resets_next p) (net.edge edge (get_or t.now clock 0) (inputs clock)) (not (holds_back (reset_of net p) (λ n. get_or next.now n 0))) (reset_entry (reset_of net p) place) (get_or ((process net p).acting_effect t.now) place None) e

        asleep : waits next p ≡ false → (resets_next p ≡ true) ⊎ (resets_next p ≡ false) → value t p place ≡ entry_or (entry_where (resets_next p) (reset_entry (reset_of net p) place)) (value t p place)
        asleep w (inl holds) = sym (ap (λ (b : Bool). entry_or (entry_where b (reset_entry (reset_of net p) place)) (value t p place)) holds ∙ asleep_kept p place clock edge is h w holds)
        asleep w (inr holds) = sym (ap (λ (b : Bool). entry_or (entry_where b (reset_entry (reset_of net p) place)) (value t p place)) holds)

        by_waking : net.edge edge (get_or t.now clock 0) (inputs clock) ≡ false → (waits next p ≡ true) ⊎ (waits next p ≡ false) → out (finished net next) p place ≡ entry_or (next_entry p place clock edge) (value t p place)
        by_waking e (inl w) = ap (λ (o : Option ℕ). entry_or o (value t p place)) (reset_awake net L next p place clock edge next_fresh is (place_in_range net p place h) w (rw now_clock e) ∙ sym (without_edge e))
        by_waking e (inr w) = asleep_out p place w ∙ asleep w (cases_Bool (resets_next p)) ∙ ap (λ (o : Option ℕ). entry_or o (value t p place)) (sym (without_edge e))

        whole : (net.edge edge (get_or t.now clock 0) (inputs clock) ≡ true) ⊎ (net.edge edge (get_or t.now clock 0) (inputs clock) ≡ false) → out (finished net next) p place ≡ entry_or (next_entry p place clock edge) (value t p place)
        whole (inr e) = by_waking e (cases_Bool (waits next p))
        whole (inl e) =
            let differs : get_or t.now clock 0 ≡ get_or next.now clock 0 → ⊥ =
            (λ same. let f : net.edge edge (get_or t.now clock 0) (inputs clock) ≡ false = rw (← now_clock) (no_edge_same net L t.now next.now clock edge same) in cc) in
            let wakes = resumed_at net t.now next.now p ∙ any_true (has_event t.now next.now) (process net p).wakes clock (L.faultless.clock_wakes p clock edge is) (differs_event t.now next.now clock differs) in
            let ran = clocked_awake net L next p place clock edge next_fresh is (place_in_range net p place h) wakes in
            let branch = L.elaborated.bodies.branch_reads p clock edge next.now t.now is (agree e) in
            ap (λ (o : Option ℕ). entry_or o (value t p place))
            (ran
            ∙ (λ i. clocked_entry (resets_next p) (net.edge edge (get_or t.now clock 0) (now_clock i) && not (holds_back (reset_of net p) (λ n. get_or next.now n 0))) (reset_entry (reset_of net p) place) (get_or (branch i) place None)))

    pub next_begins : ((p clock : ℕ) (edge : Edge) → IsClockedBy net p clock edge → IsTrue (net.edge edge (was clock) (inputs clock)) → (n : ℕ) → IsInput net n → (IsClock net n → ⊥) → was n ≡ inputs n)
        → Begins net (λ clock edge. net.edge edge (get_or t.now clock 0) (inputs clock)) (λ p place. out (finished net next) p place) t.now (finished net next)
    next_begins no_race = record {
      first_out = λ p place. refl;
      driven = next_driven;
      registers = next_register no_race;
      steady = λ p clock edge is comes n given. steady p clock edge is comes n given (cases_Bool (list_any (λ m. m == n) net.inputs));
      settled = inl (λ p place c h. H.on_combinational p place c h ∙ ap (λ (x : ℕ). Some x) (quiet_out p place ∙ sym (H.on_driven p place h)));
    }
      where
        steady : (p clock : ℕ) (edge : Edge) → IsClockedBy net p clock edge → net.edge edge (get_or t.now clock 0) (inputs clock) ≡ true → (n : ℕ) → IsFromOutside net n → (list_any (λ m. m == n) net.inputs ≡ true) ⊎ (list_any (λ m. m == n) net.inputs ≡ false)
            → get_or next.now n 0 ≡ get_or t.now n 0
        steady p clock edge is comes n given (inl input) =
            let was_clock = H.on_inputs clock (L.faultless.clock_is_input p clock edge is) in
            inputs_at net L.elaborated inputs t.now n input ∙ sym (H.on_inputs n input ∙ no_race p clock edge is (rw was_clock at comes) n input given.1)
        steady p clock edge is comes n given (inr other) = others_at net inputs t.now n H.now_length (λ (i : IsInput net n). cc)
