-- What holds after the run of initialization.
use Rattle.std.proofs.Common.{◌≡◌, ℕ, ◌<◌, ◌≤◌, Bool, true, false, not, List, [], length, get_or, map, Option, Some, None, refl, sym, ap, ◌∙◌, arith, ◌⊎◌, inl, inr, ◌==◌, if◌then◌else◌, IsSome}
use Rattle.std.specs.List.{list_any}
use Rattle.std.proofs.lemmas.List.{length-map, get_or_past}
use Rattle.std.proofs.lemmas.List.FromFn.{length-map-range_with_len}
use Rattle.std.proofs.lemmas.Bool.{cases_lt, false_from_ne_true, cond-true, cond-false}
use Rattle.rtl_model.proofs.basics.Lists.{get_or-map_within}
use Rattle.rtl_model.specs.basics.Valuations.{entry_where}
use Rattle.rtl_model.proofs.simulation.Numbered.{Numbered, sole}
use Rattle.rtl_model.specs.simulation.Netlist.{Driver, Edge, HasPlace, IsClockedBy, IsInput, Netlist, no_process, process, Process, Reset, reset_entry, reset_of, resets, holds_back, Source, target}
use Rattle.rtl_model.specs.simulation.Cycle.{after_inputs, source_value, start_state, State, with_inputs}
use Rattle.rtl_model.specs.simulation.Elaborated.{IsElaborated}
use Rattle.rtl_model.specs.simulation.Machine.{entry_or}
use Rattle.rtl_model.specs.simulation.Laws.{HasNoReset}
use Rattle.rtl_model.proofs.simulation.Order.{finished, waits, row_after}
use Rattle.rtl_model.proofs.simulation.Faultless.{place_in_range}
use Rattle.rtl_model.proofs.simulation.Solution.{get_or-table, length-table}
use Rattle.rtl_model.proofs.simulation.Rows.{transaction, value, out, get_or-map, no_entries}
use Rattle.rtl_model.proofs.simulation.Beginning.{Begins}
use Rattle.rtl_model.proofs.simulation.Held.{entry_twice, no_edge_entry, reset_awake, Holds, IsSeen, IsFresh, input_not_driven, none_or_some, no_edge_same, combinational_awake, who_ran}

pub inputs_at : (net : Netlist) (E : IsElaborated net) (inputs : ℕ → ℕ) (old : List ℕ) (n : ℕ) → IsInput net n → get_or (with_inputs net inputs old) n 0 ≡ inputs n
inputs_at net E inputs old n is =
    get_or-table (length net.start) (λ m. if list_any (λ k. k == m) net.inputs then inputs m else get_or old m 0) n (E.wiring.inputs_are_nets n is) ∙ cond-true _ _ _ is

pub others_at : (net : Netlist) (inputs : ℕ → ℕ) (old : List ℕ) (n : ℕ) → length old ≡ length net.start → (IsInput net n → ⊥) → get_or (with_inputs net inputs old) n 0 ≡ get_or old n 0
others_at net inputs old n e after_inputs = go (cases_lt n (length net.start))
  where
    go : (n < length net.start) ⊎ (length net.start ≤ n) → get_or (with_inputs net inputs old) n 0 ≡ get_or old n 0
    go (inl l) = get_or-table (length net.start) (λ m. if list_any (λ k. k == m) net.inputs then inputs m else get_or old m 0) n l ∙ cond-false _ _ _ (false_from_ne_true _ after_inputs)
    go (inr l) = get_or_past (with_inputs net inputs old) n 0 (rw length-table l) ∙ sym (get_or_past old n 0 (omega arith))

module _ (net : Netlist) (L : Numbered net) where
  pub target_no_input : (p place : ℕ) → HasPlace net p place → IsInput net (target net p place) → ⊥
  target_no_input p place h is = input_not_driven net L (target net p place) is (p, place, h, refl)

  -- the start
  module _ (inputs : ℕ → ℕ) where
    abbrev pub first : State
    first = start_state net inputs

    pub start_fresh : IsFresh net first
    start_fresh = record {
      rows = length-map net.processes _;
      none = λ p place. ap (λ (row : List (Option ℕ)). get_or row place None) (get_or-map (λ (q : Process). map {B = Option ℕ} (λ (n : ℕ). None) q.drives) net.processes p no_process) ∙ no_entries (process net p).drives place;
    }

    start_waits : (p : ℕ) → p < length net.processes → waits first p ≡ true
    start_waits p l = get_or-map_within (λ (q : Process). true) net.processes p no_process false l

    start_row : (p : ℕ) → get_or first.drivers p [] ≡ (process net p).starts
    start_row p = get_or-map (λ (q : Process). q.starts) net.processes p no_process

    start_value : (p place : ℕ) → HasPlace net p place → get_or net.start (target net p place) 0 ≡ value first p place
    start_value p place h =
        L.elaborated.wiring.nets_start (target net p place) (Driver p place) (L.elaborated.wiring.drivers_are_sources p place h)
        ∙ ap (λ (xs : List Source). net.resolve (map (source_value first.drivers) xs)) (sole net L p place h)
        ∙ L.elaborated.values.one_resolves _

    -- whether a reset holds then, and what a register is assigned
    abbrev pub resets_first : ℕ → Bool
    resets_first p = resets (reset_of net p) (λ n. get_or first.now n 0)

    start_entry : (p place clock : ℕ) (edge : Edge) → IsClockedBy net p clock edge → p < length net.processes → transaction (finished net first) p place ≡ entry_where (resets_first p) (reset_entry (reset_of net p) place)
    start_entry p place clock edge is l = reset_awake net L first p place clock edge start_fresh is l (start_waits p l) (no_edge_same net L first.before first.now clock edge refl)

    pub start_register : (p place clock : ℕ) (edge : Edge) → IsClockedBy net p clock edge → HasPlace net p place
        → out (finished net first) p place ≡ entry_or (entry_where (resets_first p) (reset_entry (reset_of net p) place)) (get_or net.start (target net p place) 0)
    start_register p place clock edge is h = (λ i. entry_or (start_entry p place clock edge is (place_in_range net p place h) i) (sym (start_value p place h) i))

    start_kept : (p place clock : ℕ) (edge : Edge) → IsClockedBy net p clock edge → HasPlace net p place → resets_first p ≡ true
        → entry_or (reset_entry (reset_of net p) place) (out (finished net first) p place) ≡ out (finished net first) p place
    start_kept p place clock edge is h t =
        let e = start_register p place clock edge is h ∙ ap (λ (b : Bool). entry_or (entry_where b (reset_entry (reset_of net p) place)) (get_or net.start (target net p place) 0)) t in
        ap (entry_or (reset_entry (reset_of net p) place)) e ∙ entry_twice (reset_entry (reset_of net p) place) (get_or net.start (target net p place) 0) ∙ sym e

    pub start_driven : (p place : ℕ) → HasPlace net p place → get_or first.now (target net p place) 0 ≡ get_or net.start (target net p place) 0
    start_driven p place h = others_at net inputs net.start (target net p place) refl (target_no_input p place h)

    pub start_holds : Holds net inputs (λ p place. out (finished net first) p place) (IsSeen net (finished net first)) (finished net first)
    start_holds = record {
      now_length = length-table _ _;
      pend_length = length-map-range_with_len (row_after net first) 0 (length first.pending) ∙ start_fresh.rows;
      row_lengths = λ p. ap length (start_row p) ∙ L.elaborated.wiring.each_driver_starts p;
      on_inputs = λ n is. inputs_at net L.elaborated inputs net.start n is;
      on_others = λ n l after_inputs free. others_at net inputs net.start n refl after_inputs;
      on_driven = λ p place h. start_driven p place h ∙ start_value p place h;
      on_combinational = λ p place c h. combinational_awake net L first p place start_fresh c h (start_waits p c.0);
      on_clocked = λ p place clock edge is h. inl refl;
      reset_kept = start_kept;
    }

    pub start_begins : Begins net (λ clock edge. false) (λ p place. out (finished net first) p place) net.start (finished net first)
    start_begins = record {
      first_out = λ p place. refl;
      driven = start_driven;
      registers = λ p place clock edge is h. start_register p place clock edge is h
          ∙ ap (λ (o : Option ℕ). entry_or o (get_or net.start (target net p place) 0))
          (sym (no_edge_entry (resets_first p) false (not (holds_back (reset_of net p) (λ n. get_or first.now n 0))) (reset_entry (reset_of net p) place) (get_or ((process net p).acting_effect net.start) place None) refl));
      steady = λ p clock edge is comes. absurd cc;
      settled = inr (refl, λ clock edge. refl);
    }

    -- without a reset clocked processes do nothing at the start
    pub start_asleep : HasNoReset net → (p place clock : ℕ) (edge : Edge) → IsClockedBy net p clock edge → transaction (finished net first) p place ≡ None
    start_asleep none p place clock edge is = go (none_or_some (transaction (finished net first) p place))
      where
        never : (o : Option Reset) → reset_of net p ≡ o → resets o (λ n. get_or first.now n 0) ≡ false
        never None e = refl
        never (Some r) e = absurd (none p r e)

        go : (transaction (finished net first) p place ≡ None) ⊎ IsSome (transaction (finished net first) p place) → transaction (finished net first) p place ≡ None
        go (inl h) = h
        go (inr h) =
            let (l, w) = who_ran net first p place start_fresh h in
            start_entry p place clock edge is l ∙ ap (λ (b : Bool). entry_where b (reset_entry (reset_of net p) place)) (never (reset_of net p) refl)
