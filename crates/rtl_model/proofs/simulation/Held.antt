-- What holds at the end of every cycle, and that a delta cycle keeps it and leaves fewer numbers with transactions.
use Rattle.std.proofs.Common.{◌==◌, ◌≡◌, ℕ, zero, suc, ◌+◌, ◌<◌, ◌≤◌, Bool, true, false, List, [], ◌∷◌, length, get_or, map, Option, Some, None, refl, sym, ap, ◌∙◌, arith, ◌⊎◌, inl, inr, subst, IsSome, Contains, ◌&&◌, not}
use Rattle.std.specs.List.{list_any}
use Rattle.std.proofs.lemmas.List.{length-map, get_or_past}
use Rattle.std.proofs.lemmas.List.FromFn.{length-map-range_with_len}
use Rattle.std.proofs.lemmas.Bool.{cases_lt, cases_Bool, cond-true, cond-false}
use Rattle.rtl_model.proofs.basics.Lists.{Contains-none, any_at, Contains-first, none_contained, only_source}
use Rattle.rtl_model.specs.basics.Valuations.{AgreeOn, clocked_entry, entry_where, has_event}
use Rattle.rtl_model.proofs.bodies.Sequences.{or_else-none}
use Rattle.rtl_model.proofs.simulation.Faultless.{kinds, kinds_below, place_in_range, undriven_input}
use Rattle.rtl_model.proofs.simulation.Numbered.{CanAssign, Numbered, assigned, sole, driven_or_not}
use Rattle.rtl_model.specs.simulation.Netlist.{Driver, Edge, HasPlace, Idle, IsClockedBy, IsCombinational, IsInput, Netlist, process, Process, Reset, reset_entry, reset_of, resets, holds_back, Source, sources_of, target, IsDriven}
use Rattle.rtl_model.specs.simulation.Cycle.{is_quiet, net_value, resumed_processes, source_value, State, after_update}
use Rattle.rtl_model.specs.simulation.Machine.{entry_or}
use Rattle.rtl_model.proofs.simulation.Order.{finished, waits, row_after, get_or-rows}
use Rattle.rtl_model.proofs.simulation.Solution.{get_or-table, length-table}
use Rattle.rtl_model.proofs.simulation.Rows.{transaction, value, out, driven_all_at, length-driven, driven_at, over_none, none_pending_at, quiet_from, resumed_at, event_differs, no_event_same}
use Rattle.rtl_model.proofs.simulation.Deltas.{after_delta, after}

-- v is the nets' valuation after s, or after some delta cycles
abbrev pub IsSeen : Netlist → State → List ℕ → Type 0
IsSeen net s v = (k : ℕ) × (v ≡ (after net k s).now)

-- p's reset has held, in a valuation that was seen, and its entry lies over what the register had
pub record IsLaidOver (net : Netlist) (r : ℕ → ℕ → ℕ) (Seen : List ℕ → Type 0) (s : State) (p place : ℕ) : Type 0 where
  pub valuation : List ℕ
  pub seen : Seen valuation
  pub held : resets (reset_of net p) (λ n. get_or valuation n 0) ≡ true
  pub laid : out s p place ≡ entry_or (reset_entry (reset_of net p) place) (r p place)

-- r is what the driver of each register had after a moment's first cycle, and Seen holds of the nets' valuations since then
pub record Holds (net : Netlist) (inputs : ℕ → ℕ) (r : ℕ → ℕ → ℕ) (Seen : List ℕ → Type 0) (s : State) : Type 0 where
  pub now_length : length s.now ≡ length net.start
  pub pend_length : length s.pending ≡ length net.processes
  pub row_lengths : (p : ℕ) → length (get_or s.drivers p []) ≡ length (process net p).drives
  pub on_inputs : (n : ℕ) → IsInput net n → get_or s.now n 0 ≡ inputs n
  pub on_others : (n : ℕ) → n < length net.start → (IsInput net n → ⊥) → (IsDriven net n → ⊥) → get_or s.now n 0 ≡ get_or net.start n 0
  pub on_driven : (p place : ℕ) → HasPlace net p place → get_or s.now (target net p place) 0 ≡ value s p place
  pub on_combinational : (p place : ℕ) → IsCombinational net p → HasPlace net p place → get_or ((process net p).effect s.now s.now) place None ≡ Some (out s p place)
  -- what a register's driver has from the next update on
  pub on_clocked : (p place clock : ℕ) (edge : Edge) → IsClockedBy net p clock edge → HasPlace net p place → (out s p place ≡ r p place) ⊎ IsLaidOver net r Seen s p place
  -- where a reset holds, its entry lies over that
  pub reset_kept : (p place clock : ℕ) (edge : Edge) → IsClockedBy net p clock edge → HasPlace net p place → resets (reset_of net p) (λ n. get_or s.now n 0) ≡ true → entry_or (reset_entry (reset_of net p) place) (out s p place) ≡ out s p place

-- a cycle whose Runs are still to come: nothing is pending
pub record IsFresh (net : Netlist) (u : State) : Type 0 where
  pub rows : length u.pending ≡ length net.processes
  pub none : (p place : ℕ) → transaction u p place ≡ None

-- after d delta cycles and later by b: processes with transactions have numbers above d, and so do nets that will change
pub record IsAbove (net : Netlist) (L : Numbered net) (d b : ℕ) (s : State) : Type 0 where
  pub runs : (p place : ℕ) → p < length net.processes → IsSome (transaction s p place) → d + 1 ≤ L.of_process p + b
  pub changes : (p place : ℕ) → HasPlace net p place → (d + 1 ≤ L.of_net (target net p place) + b) ⊎ (out s p place ≡ value s p place)

-- what a clocked process assigns where its edge doesn't hold: its reset's entry
pub no_edge_entry : (holds edge open' : Bool) (a b : Option ℕ) → edge ≡ false → clocked_entry holds (edge && open') a b ≡ entry_where holds a
no_edge_entry holds edge open' a b e = rw e (or_else-none (entry_where holds a))

pub entry_twice : (o : Option ℕ) (x : ℕ) → entry_or o (entry_or o x) ≡ entry_or o x
entry_twice (Some v) x = refl
entry_twice None x = refl

-- a reset that holds lies over its branch
pub over_branch : (a : Option ℕ) (acts : Bool) (b : Option ℕ) (x : ℕ) → entry_or a (entry_or (clocked_entry true acts a b) x) ≡ entry_or (clocked_entry true acts a b) x
over_branch (Some v) acts b x = refl
over_branch None acts b x = refl

some_is : (o t : Option ℕ) (v : ℕ) → IsSome o → t ≡ o → o ≡ Some (entry_or t v)
some_is (Some x) t v h e = rw e refl
some_is None t v h e = cc

pub none_or_some : (o : Option ℕ) → (o ≡ None) ⊎ IsSome o
none_or_some None = inl refl
none_or_some (Some v) = inr refl

-- the transactions after the Runs of a cycle
pub ran_awake : (net : Netlist) (u : State) (p place : ℕ) → IsFresh net u → p < length net.processes → waits u p ≡ true → transaction (finished net u) p place ≡ get_or ((process net p).effect u.before u.now) place None
ran_awake net u p place f l w =
    let rows = f.rows in
    let row = get_or-rows (row_after net u) (length u.pending) p [] (omega arith) ∙ cond-true (waits u p) _ _ w in
    ap (λ (r : List (Option ℕ)). get_or r place None) row ∙ over_none ((process net p).effect u.before u.now) (get_or u.pending p []) place (f.none p place)

pub ran_asleep : (net : Netlist) (u : State) (p place : ℕ) → IsFresh net u → waits u p ≡ false → transaction (finished net u) p place ≡ None
ran_asleep net u p place f w = go (cases_lt p (length u.pending))
  where
    go : (p < length u.pending) ⊎ (length u.pending ≤ p) → transaction (finished net u) p place ≡ None
    go (inl l) =
        let row = get_or-rows (row_after net u) (length u.pending) p [] l ∙ cond-false (waits u p) _ _ w in
        ap (λ (r : List (Option ℕ)). get_or r place None) row ∙ f.none p place
    go (inr l) =
        let row = get_or_past (finished net u).pending p [] (rw length-map-range_with_len l) in
        ap (λ (r : List (Option ℕ)). get_or r place None) row

-- who has a transaction then, has run
pub who_ran : (net : Netlist) (u : State) (p place : ℕ) → IsFresh net u → IsSome (transaction (finished net u) p place) → (p < length net.processes) × (waits u p ≡ true)
who_ran net u p place f s = (go (cases_lt p (length u.pending)), at (cases_Bool (waits u p)))
  where
    go : (p < length u.pending) ⊎ (length u.pending ≤ p) → p < length net.processes
    go (inl l) = let rows = f.rows in omega arith
    go (inr l) =
        let row = get_or_past (finished net u).pending p [] (rw length-map-range_with_len l) in
        let e : transaction (finished net u) p place ≡ None = ap (λ (r : List (Option ℕ)). get_or r place None) row in
        cc

    at : (waits u p ≡ true) ⊎ (waits u p ≡ false) → waits u p ≡ true
    at (inl w) = w
    at (inr w) = let e = ran_asleep net u p place f w in cc

module _ (net : Netlist) (L : Numbered net) where
  pub input_not_driven : (n : ℕ) → IsInput net n → IsDriven net n → ⊥
  input_not_driven = undriven_input net L.elaborated.wiring

  -- what a clocked process has after its run
  pub clocked_awake : (u : State) (p place clock : ℕ) (edge : Edge) → IsFresh net u → IsClockedBy net p clock edge → p < length net.processes → waits u p ≡ true
      → transaction (finished net u) p place
      ≡ clocked_entry (resets (reset_of net p) (λ n. get_or u.now n 0)) (net.edge edge (get_or u.before clock 0) (get_or u.now clock 0) && not (holds_back (reset_of net p) (λ n. get_or u.now n 0))) (reset_entry (reset_of net p) place) (get_or ((process net p).acting_effect u.now) place None)
  clocked_awake u p place clock edge f is l w = ran_awake net u p place f l w ∙ L.elaborated.bodies.clocked_acts p clock place edge u.before u.now is

  -- without its edge: its reset's entry
  pub reset_awake : (u : State) (p place clock : ℕ) (edge : Edge) → IsFresh net u → IsClockedBy net p clock edge → p < length net.processes → waits u p ≡ true → net.edge edge (get_or u.before clock 0) (get_or u.now clock 0) ≡ false
      → transaction (finished net u) p place ≡ entry_where (resets (reset_of net p) (λ n. get_or u.now n 0)) (reset_entry (reset_of net p) place)
  reset_awake u p place clock edge f is l w e = clocked_awake u p place clock edge f is l w
      ∙ no_edge_entry (resets (reset_of net p) (λ n. get_or u.now n 0)) (net.edge edge (get_or u.before clock 0) (get_or u.now clock 0)) (not (holds_back (reset_of net p) (λ n. get_or u.now n 0))) (reset_entry (reset_of net p) place) (get_or ((process net p).acting_effect u.now) place None) e

  -- a reset that wakes no process holds as before
  pub reset_asleep : (before now : List ℕ) (p : ℕ) → list_any (has_event before now) (process net p).wakes ≡ false → resets (reset_of net p) (λ n. get_or now n 0) ≡ resets (reset_of net p) (λ n. get_or before n 0)
  reset_asleep before now p w = go (reset_of net p) refl
    where
      go : (o : Option Reset) → reset_of net p ≡ o → resets o (λ n. get_or now n 0) ≡ resets o (λ n. get_or before n 0)
      go None e = refl
      go (Some x) e = ap (λ (v : ℕ). v == x.value) (sym (no_event_same before now x.net (none_contained (has_event before now) (process net p).wakes x.net w (L.faultless.reset_wakes p x e))))

  pub no_edge_same : (before now : List ℕ) (clock : ℕ) (edge : Edge) → get_or before clock 0 ≡ get_or now clock 0 → net.edge edge (get_or before clock 0) (get_or now clock 0) ≡ false
  no_edge_same before now clock edge e = rw e (L.elaborated.values.edges_differ edge (get_or now clock 0))

  pub combinational_awake : (u : State) (p place : ℕ) → IsFresh net u → IsCombinational net p → HasPlace net p place → waits u p ≡ true → get_or ((process net p).effect u.now u.now) place None ≡ Some (out (finished net u) p place)
  combinational_awake u p place f c h w =
      L.elaborated.bodies.entry_looks p place u.now u.now u.before u.now c h (λ n k. refl)
      ∙ some_is (get_or ((process net p).effect u.before u.now) place None) (transaction (finished net u) p place) (value u p place) (assigned net L p place u.before u.now c h) (ran_awake net u p place f c.0 w)

  asleep_agrees : (before now : List ℕ) (p : ℕ) → IsCombinational net p → list_any (has_event before now) (process net p).wakes ≡ false → AgreeOn (process net p).reads before now
  asleep_agrees before now p c e n r = no_event_same before now n (none_contained (has_event before now) (process net p).wakes n e (L.faultless.reads_wake p n c r))

  -- a combinational process's output after the Runs is its effect now, if it was before
  pub combinational_ran : (u : State) (p place : ℕ) → IsFresh net u → u.waiting ≡ resumed_processes net u.before u.now → IsCombinational net p → HasPlace net p place
      → get_or ((process net p).effect u.before u.before) place None ≡ Some (value u p place)
      → get_or ((process net p).effect u.now u.now) place None ≡ Some (out (finished net u) p place)
  combinational_ran u p place f t c h was = go (cases_Bool (waits u p))
    where
      resumes : waits u p ≡ list_any (has_event u.before u.now) (process net p).wakes
      resumes = ap (λ (ts : List Bool). get_or ts p false) t ∙ resumed_at net u.before u.now p

      go : (waits u p ≡ true) ⊎ (waits u p ≡ false) → get_or ((process net p).effect u.now u.now) place None ≡ Some (out (finished net u) p place)
      go (inl w) = combinational_awake u p place f c h w
      go (inr w) =
          let agree = asleep_agrees u.before u.now p c (sym resumes ∙ w) in
          L.elaborated.bodies.entry_looks p place u.now u.now u.before u.before c h (λ n k. sym (agree n (L.elaborated.bodies.looks_are_read p place n k))) ∙ was
          ∙ ap (λ (o : Option ℕ). Some (entry_or o (value u p place))) (sym (ran_asleep net u p place f w))

  module _ (inputs : ℕ → ℕ) (r : ℕ → ℕ → ℕ) (Seen : List ℕ → Type 0) (s : State) (H : Holds net inputs r Seen s) where
    pub updated_fresh : IsFresh net (after_update net s)
    updated_fresh = record { rows = length-map s.pending _ ∙ H.pend_length; none = none_pending_at s.pending }

    pub updated_value : (p place : ℕ) → HasPlace net p place → value (after_update net s) p place ≡ out s p place
    updated_value p place h =
        let e = H.row_lengths p in
        ap (λ (row : List ℕ). get_or row place 0) (driven_all_at s.pending s.drivers p) ∙ driven_at (get_or s.pending p []) (get_or s.drivers p []) place (omega arith)

    pub updated_driven : (p place : ℕ) → HasPlace net p place → get_or (after_update net s).now (target net p place) 0 ≡ value (after_update net s) p place
    updated_driven p place h =
        get_or-table (length net.start) (λ n. net_value net (after_update net s).drivers (sources_of net n) (get_or s.now n 0)) (target net p place) (L.elaborated.wiring.targets_are_nets p place h)
        ∙ ap (λ (xs : List Source). net_value net (after_update net s).drivers xs (get_or s.now (target net p place) 0)) (sole net L p place h)
        ∙ L.elaborated.values.one_resolves _

    pub updated_rest : (n : ℕ) → (IsDriven net n → ⊥) → get_or (after_update net s).now n 0 ≡ get_or s.now n 0
    updated_rest n free = go (cases_lt n (length net.start)) (sources_of net n) refl
      where
        starts : List (List ℕ)
        starts = map (λ (p : Process). p.starts) net.processes

        go : (n < length net.start) ⊎ (length net.start ≤ n) → (xs : List Source) → sources_of net n ≡ xs → get_or (after_update net s).now n 0 ≡ get_or s.now n 0
        go (inl l) [] e =
            get_or-table (length net.start) (λ m. net_value net (after_update net s).drivers (sources_of net m) (get_or s.now m 0)) n l
            ∙ ap (λ (xs : List Source). net_value net (after_update net s).drivers xs (get_or s.now n 0)) e
        go (inl l) (Idle v ∷ more) e =
            let has = subst (λ (xs : List Source). Contains xs (Idle v)) (sym e) (Contains-first (Idle v) more) in
            let one = only_source (sources_of net n) (Idle v) (L.faultless.one_source n) has in
            let given : IsInput net n → ⊥ = λ is. Contains-none (Idle v) (subst (λ (xs : List Source). Contains xs (Idle v)) (L.elaborated.wiring.inputs_have_no_source n is) has) in
            get_or-table (length net.start) (λ m. net_value net (after_update net s).drivers (sources_of net m) (get_or s.now m 0)) n l
            ∙ ap (λ (xs : List Source). net_value net (after_update net s).drivers xs (get_or s.now n 0)) one
            ∙ sym (H.on_others n l given free ∙ L.elaborated.wiring.nets_start n (Idle v) has ∙ ap (λ (xs : List Source). net.resolve (map (source_value starts) xs)) one)
        go (inl l) (Driver p place ∷ more) e =
            let f = L.elaborated.wiring.sources_are_drivers n p place (subst (λ (xs : List Source). Contains xs (Driver p place)) (sym e) (Contains-first (Driver p place) more)) in
            absurd (free (p, place, f.0, f.1))
        go (inr l) xs e =
            let k = H.now_length in
            get_or_past (after_update net s).now n 0 (rw length-table l) ∙ sym (get_or_past s.now n 0 (omega arith))

    no_edge_then : (p clock : ℕ) (edge : Edge) → IsClockedBy net p clock edge → net.edge edge (get_or s.now clock 0) (get_or (after_update net s).now clock 0) ≡ false
    no_edge_then p clock edge is = no_edge_same s.now (after_update net s).now clock edge (sym (updated_rest clock (input_not_driven clock (L.faultless.clock_is_input p clock edge is))))

    -- whether p's reset holds in the next delta cycle
    abbrev resets_then : ℕ → Bool
    resets_then p = resets (reset_of net p) (λ n. get_or (after_update net s).now n 0)

    -- what a clocked process assigns then: nothing, or its reset's entry, where the reset holds
    delta_entry : (p place clock : ℕ) (edge : Edge) → IsClockedBy net p clock edge → (transaction (after_delta net s) p place ≡ None) ⊎ ((resets_then p ≡ true) × (transaction (after_delta net s) p place ≡ reset_entry (reset_of net p) place))
    delta_entry p place clock edge is = go (none_or_some (transaction (after_delta net s) p place)) (cases_Bool (resets_then p))
      where
        go : (transaction (after_delta net s) p place ≡ None) ⊎ IsSome (transaction (after_delta net s) p place) → (resets_then p ≡ true) ⊎ (resets_then p ≡ false)
            → (transaction (after_delta net s) p place ≡ None) ⊎ ((resets_then p ≡ true) × (transaction (after_delta net s) p place ≡ reset_entry (reset_of net p) place))
        go (inl none) holds = inl none
        go (inr some) (inl holds) =
            let (l, w) = who_ran net (after_update net s) p place updated_fresh some in
            inr (holds, reset_awake (after_update net s) p place clock edge updated_fresh is l w (no_edge_then p clock edge is) ∙ ap (λ (b : Bool). entry_where b (reset_entry (reset_of net p) place)) holds)
        go (inr some) (inr holds) =
            let (l, w) = who_ran net (after_update net s) p place updated_fresh some in
            inl (reset_awake (after_update net s) p place clock edge updated_fresh is l w (no_edge_then p clock edge is) ∙ ap (λ (b : Bool). entry_where b (reset_entry (reset_of net p) place)) holds)

    -- what its driver has after it
    delta_out : (p place : ℕ) (o : Option ℕ) → HasPlace net p place → transaction (after_delta net s) p place ≡ o → out (after_delta net s) p place ≡ entry_or o (out s p place)
    delta_out p place o h t = (λ i. entry_or (t i) (updated_value p place h i))

    delta_clocked : Seen (after_delta net s).now → (p place clock : ℕ) (edge : Edge) → IsClockedBy net p clock edge → HasPlace net p place → (out (after_delta net s) p place ≡ r p place) ⊎ IsLaidOver net r Seen (after_delta net s) p place
    delta_clocked seen p place clock edge is h = go (delta_entry p place clock edge is) (H.on_clocked p place clock edge is h)
      where
        over : resets_then p ≡ true → transaction (after_delta net s) p place ≡ reset_entry (reset_of net p) place → (x : ℕ) → out s p place ≡ x
            → entry_or (reset_entry (reset_of net p) place) x ≡ entry_or (reset_entry (reset_of net p) place) (r p place) → IsLaidOver net r Seen (after_delta net s) p place
        over holds t x e same = record {
          valuation = (after_delta net s).now;
          seen = seen;
          held = holds;
          laid = delta_out p place (reset_entry (reset_of net p) place) h t ∙ ap (entry_or (reset_entry (reset_of net p) place)) e ∙ same;
        }

        go : (transaction (after_delta net s) p place ≡ None) ⊎ ((resets_then p ≡ true) × (transaction (after_delta net s) p place ≡ reset_entry (reset_of net p) place))
            → (out s p place ≡ r p place) ⊎ IsLaidOver net r Seen s p place → (out (after_delta net s) p place ≡ r p place) ⊎ IsLaidOver net r Seen (after_delta net s) p place
        go (inl none) (inl e) = inl (delta_out p place None h none ∙ e)
        go (inl none) (inr o) = inr (record { valuation = o.valuation; seen = o.seen; held = o.held; laid = delta_out p place None h none ∙ o.laid })
        go (inr (holds, t)) (inl e) = inr (over holds t (r p place) e refl)
        go (inr (holds, t)) (inr o) = inr (over holds t (entry_or (reset_entry (reset_of net p) place) (r p place)) o.laid (entry_twice (reset_entry (reset_of net p) place) (r p place)))

    delta_kept : (p place clock : ℕ) (edge : Edge) → IsClockedBy net p clock edge → HasPlace net p place → resets_then p ≡ true → entry_or (reset_entry (reset_of net p) place) (out (after_delta net s) p place) ≡ out (after_delta net s) p place
    delta_kept p place clock edge is h holds = go (cases_Bool (waits (after_update net s) p))
      where
        go : (waits (after_update net s) p ≡ true) ⊎ (waits (after_update net s) p ≡ false) → entry_or (reset_entry (reset_of net p) place) (out (after_delta net s) p place) ≡ out (after_delta net s) p place
        go (inl w) =
            let t = reset_awake (after_update net s) p place clock edge updated_fresh is (place_in_range net p place h) w (no_edge_then p clock edge is) ∙ ap (λ (b : Bool). entry_where b (reset_entry (reset_of net p) place)) holds in
            let e = delta_out p place (reset_entry (reset_of net p) place) h t in
            ap (entry_or (reset_entry (reset_of net p) place)) e ∙ entry_twice (reset_entry (reset_of net p) place) (out s p place) ∙ sym e
        go (inr w) =
            let e = delta_out p place None h (ran_asleep net (after_update net s) p place updated_fresh w) in
            let held = sym (reset_asleep s.now (after_update net s).now p (sym (resumed_at net s.now (after_update net s).now p) ∙ w)) ∙ holds in
            ap (entry_or (reset_entry (reset_of net p) place)) e ∙ H.reset_kept p place clock edge is h held ∙ sym e

    pub delta_combinational : (p place : ℕ) → IsCombinational net p → HasPlace net p place → get_or ((process net p).effect (after_delta net s).now (after_delta net s).now) place None ≡ Some (out (after_delta net s) p place)
    delta_combinational p place c h = combinational_ran (after_update net s) p place updated_fresh refl c h (H.on_combinational p place c h ∙ ap (λ (x : ℕ). Some x) (sym (updated_value p place h)))

    pub delta_holds : Seen (after_delta net s).now → Holds net inputs r Seen (after_delta net s)
    delta_holds seen = record {
      now_length = length-table _ _;
      pend_length = length-map-range_with_len (row_after net (after_update net s)) 0 (length (after_update net s).pending) ∙ updated_fresh.rows;
      row_lengths = λ p. ap length (driven_all_at s.pending s.drivers p) ∙ length-driven (get_or s.pending p []) (get_or s.drivers p []) ∙ H.row_lengths p;
      on_inputs = λ n is. updated_rest n (input_not_driven n is) ∙ H.on_inputs n is;
      on_others = λ n l given free. updated_rest n free ∙ H.on_others n l given free;
      on_driven = updated_driven;
      on_combinational = delta_combinational;
      on_clocked = delta_clocked seen;
      reset_kept = delta_kept;
    }

    -- a combinational driver that looks at no net with an event has what it had
    unmoved : (p place : ℕ) → IsCombinational net p → HasPlace net p place → list_any (has_event s.now (after_update net s).now) ((process net p).looks place) ≡ false
        → out (after_delta net s) p place ≡ value (after_delta net s) p place
    unmoved p place c h e =
        let agree : AgreeOn ((process net p).looks place) s.now (after_update net s).now = λ n k. no_event_same s.now (after_update net s).now n (none_contained (has_event s.now (after_update net s).now) ((process net p).looks place) n e k) in
        let same = L.elaborated.bodies.entry_looks p place s.now s.now (after_update net s).now (after_update net s).now c h agree in
        let was = H.on_combinational p place c h in
        let is : get_or ((process net p).effect (after_update net s).now (after_update net s).now) place None ≡ Some (out (after_delta net s) p place) = delta_combinational p place c h in
        let e : out (after_delta net s) p place ≡ out s p place = cc in
        e ∙ sym (updated_value p place h)

    -- one delta cycle more, and the numbers are one higher
    module _ (d b : ℕ) (above : IsAbove net L d b s) where
      -- a net with an event then is driven, and has a number that is high enough
      event_above : (n : ℕ) → (get_or s.now n 0 ≡ get_or (after_update net s).now n 0 → ⊥) → IsDriven net n × (d + 1 ≤ L.of_net n + b)
      event_above n differs = go (driven_or_not net L n)
        where
          high : (q place : ℕ) → HasPlace net q place → target net q place ≡ n → (d + 1 ≤ L.of_net (target net q place) + b) ⊎ (out s q place ≡ value s q place) → d + 1 ≤ L.of_net n + b
          high q place h t (inl l) = subst (λ (m : ℕ). d + 1 ≤ L.of_net m + b) t l
          high q place h t (inr e) = absurd (differs (subst (λ (m : ℕ). get_or s.now m 0 ≡ get_or (after_update net s).now m 0) t
              (H.on_driven q place h ∙ sym (updated_driven q place h ∙ updated_value q place h ∙ e))))

          go : IsDriven net n ⊎ (IsDriven net n → ⊥) → IsDriven net n × (d + 1 ≤ L.of_net n + b)
          go (inr free) = absurd (differs (sym (updated_rest n free)))
          go (inl (q, place, h, t)) = ((q, place, h, t), high q place h t (above.changes q place h))

      event_in : (ns : List ℕ) → list_any (has_event s.now (after_update net s).now) ns ≡ true → (n : ℕ) × Contains ns n × (IsDriven net n × (d + 1 ≤ L.of_net n + b))
      event_in ns e =
          let (n, has, event) = any_at (has_event s.now (after_update net s).now) ns e in
          (n, has, event_above n (event_differs s.now (after_update net s).now n event))

      can_assign : (p place : ℕ) → IsSome (transaction (after_delta net s) p place) → p < length net.processes → CanAssign net p
      can_assign p place some l = go (kinds_below net L.faultless p l)
        where
          has : (o : Option Reset) → reset_of net p ≡ o → resets o (λ n. get_or (after_update net s).now n 0) ≡ true → CanAssign net p
          has None e t = absurd cc
          has (Some reset) e t = inr (reset, e)

          of_entry : (transaction (after_delta net s) p place ≡ None) ⊎ ((resets_then p ≡ true) × (transaction (after_delta net s) p place ≡ reset_entry (reset_of net p) place)) → CanAssign net p
          of_entry (inl none) = cc
          of_entry (inr (holds, t)) = has (reset_of net p) refl holds

          go : IsCombinational net p ⊎ ((clock : ℕ) × (edge : Edge) × IsClockedBy net p clock edge) → CanAssign net p
          go (inl c) = inl c
          go (inr (clock, edge, is)) = of_entry (delta_entry p place clock edge is)

      runs_above : (p place : ℕ) → p < length net.processes → IsSome (transaction (after_delta net s) p place) → suc d + 1 ≤ L.of_process p + b
      runs_above p place l some =
          let (in_range, w) = who_ran net (after_update net s) p place updated_fresh some in
          let (n, wakes, (driven, k)) = event_in (process net p).wakes (sym (resumed_at net s.now (after_update net s).now p) ∙ w) in
          let rises = L.above p n (can_assign p place some l) driven wakes in
          omega arith

      changes_above : (p place : ℕ) → HasPlace net p place → (suc d + 1 ≤ L.of_net (target net p place) + b) ⊎ (out (after_delta net s) p place ≡ value (after_delta net s) p place)
      changes_above p place h = go (kinds net L.faultless p place h)
        where
          moved : IsCombinational net p → (list_any (has_event s.now (after_update net s).now) ((process net p).looks place) ≡ true) ⊎ (list_any (has_event s.now (after_update net s).now) ((process net p).looks place) ≡ false)
              → (suc d + 1 ≤ L.of_net (target net p place) + b) ⊎ (out (after_delta net s) p place ≡ value (after_delta net s) p place)
          moved c (inl e) =
              let (n, looks, (driven, k)) = event_in ((process net p).looks place) e in
              let rises = L.rises p place n c h looks in
              inl (omega arith)
          moved c (inr e) = inr (unmoved p place c h e)

          go : IsCombinational net p ⊎ ((clock : ℕ) × (edge : Edge) × IsClockedBy net p clock edge) → (suc d + 1 ≤ L.of_net (target net p place) + b) ⊎ (out (after_delta net s) p place ≡ value (after_delta net s) p place)
          go (inl c) = moved c (cases_Bool (list_any (has_event s.now (after_update net s).now) ((process net p).looks place)))
          go (inr (clock, edge, is)) = of_entry (delta_entry p place clock edge is)
            where
              -- a reset that holds only now has an event on its net
              of_reset : transaction (after_delta net s) p place ≡ reset_entry (reset_of net p) place → (o : Option Reset) → reset_of net p ≡ o → resets o (λ n. get_or (after_update net s).now n 0) ≡ true
                  → (resets o (λ n. get_or s.now n 0) ≡ true) ⊎ (resets o (λ n. get_or s.now n 0) ≡ false)
                  → (suc d + 1 ≤ L.of_net (target net p place) + b) ⊎ (out (after_delta net s) p place ≡ value (after_delta net s) p place)
              of_reset t None e holds was = absurd cc
              of_reset t (Some reset) e holds (inl was) =
                  let held : resets (reset_of net p) (λ n. get_or s.now n 0) ≡ true = ap (λ (x : Option Reset). resets x (λ n. get_or s.now n 0)) e ∙ was in
                  inr (delta_out p place (reset_entry (reset_of net p) place) h t ∙ H.reset_kept p place clock edge is h held ∙ sym (updated_value p place h))
              of_reset t (Some reset) e holds (inr was) = by_entry (none_or_some (reset_entry (reset_of net p) place))
                where
                  by_entry : (reset_entry (reset_of net p) place ≡ None) ⊎ IsSome (reset_entry (reset_of net p) place) → (suc d + 1 ≤ L.of_net (target net p place) + b) ⊎ (out (after_delta net s) p place ≡ value (after_delta net s) p place)
                  by_entry (inl none) = inr (delta_out p place None h (t ∙ none) ∙ sym (updated_value p place h))
                  by_entry (inr some) =
                      let (driven, k) = event_above reset.net (λ same. let f : (get_or s.now reset.net 0 == reset.value) ≡ (get_or (after_update net s).now reset.net 0 == reset.value) = ap (λ (x : ℕ). x == reset.value) same in cc) in
                      let rises = L.resets_rise p place reset.net (((reset, e, refl), driven), some) h in
                      inl (omega arith)

              of_entry : (transaction (after_delta net s) p place ≡ None) ⊎ ((resets_then p ≡ true) × (transaction (after_delta net s) p place ≡ reset_entry (reset_of net p) place))
                  → (suc d + 1 ≤ L.of_net (target net p place) + b) ⊎ (out (after_delta net s) p place ≡ value (after_delta net s) p place)
              of_entry (inl none) = inr (delta_out p place None h none ∙ sym (updated_value p place h))
              of_entry (inr (holds, t)) = of_reset t (reset_of net p) refl holds (cases_Bool (resets (reset_of net p) (λ n. get_or s.now n 0)))

      pub delta_above : IsAbove net L (suc d) b (after_delta net s)
      delta_above = record { runs = runs_above; changes = changes_above }

  module _ (inputs : ℕ → ℕ) (r : ℕ → ℕ → ℕ) (Seen : List ℕ → Type 0) where
    pub after_holds : (k : ℕ) (s : State) → ((j : ℕ) → Seen (after net j s).now) → Holds net inputs r Seen s → Holds net inputs r Seen (after net k s)
    after_holds zero s seen H = H
    after_holds (suc k) s seen H = after_holds k (after_delta net s) (λ j. seen (suc j)) (delta_holds inputs r Seen s H (seen 1))

    after_above : (k d b : ℕ) (s : State) → ((j : ℕ) → Seen (after net j s).now) → Holds net inputs r Seen s → IsAbove net L d b s → IsAbove net L (d + k) b (after net k s)
    after_above zero d b s seen H above = let e : d ≡ d + 0 = omega arith in subst (λ (i : ℕ). IsAbove net L i b s) e above
    after_above (suc k) d b s seen H above =
        let more = after_above k (suc d) b (after_delta net s) (λ j. seen (suc j)) (delta_holds inputs r Seen s H (seen 1)) (delta_above inputs r Seen s H d b above) in
        let e : suc d + k ≡ d + suc k = omega arith in
        subst (λ (i : ℕ). IsAbove net L i b (after net k (after_delta net s))) e more

    pub quiet_after : (b : ℕ) (s : State) → ((j : ℕ) → Seen (after net j s).now) → Holds net inputs r Seen s → IsAbove net L 0 b s → is_quiet (after net (L.greatest + b) s) ≡ true
    quiet_after b s seen H above = quiet_from (after net (L.greatest + b) s) (λ p place l some. late p place (in_range p l) some)
      where
        last : IsAbove net L (0 + (L.greatest + b)) b (after net (L.greatest + b) s)
        last = after_above (L.greatest + b) 0 b s seen H above

        in_range : (p : ℕ) → p < length (after net (L.greatest + b) s).pending → p < length net.processes
        in_range p l = let k = (after_holds (L.greatest + b) s seen H).pend_length in omega arith

        late : (p place : ℕ) → p < length net.processes → IsSome (transaction (after net (L.greatest + b) s) p place) → ⊥
        late p place l some = let k = last.runs p place l some in let m = L.process_within p in omega arith
