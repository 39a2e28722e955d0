-- The standard's run of a netlist and the run of the netlist whose variables are kept stay beside each other.
use Rattle.std.proofs.Common.{◌≡◌, ℕ, ◌+◌, ◌<◌, ◌≤◌, Bool, true, false, cond, ◌==◌, List, [], ◌∷◌, length, map, flat_map, take, slice_index, slice_index_or, slice_set, Option, None, unwrap_or, refl, sym, ap, ◌∙◌, subst, arith, ◌⊎◌, inl, inr, Contains}
use Rattle.std.specs.List.{list_any}
use Rattle.std.proofs.lemmas.Bool.{cases_eq, cases_lt}
use Rattle.std.proofs.lemmas.List.{length-map, length-append, length-set, get_or-set_same, get_or-set_other, get_or_past, get_or-take, get_or_append_left}
use Rattle.std.proofs.lemmas.List.Elements.{All-contains}
use Rattle.std.proofs.lemmas.Option.{slice_get_within}
use Rattle.rtl_model.specs.basics.Valuations.{has_event}
use Rattle.rtl_model.specs.bodies.Effect.{effect, effect_of}
use Rattle.rtl_model.specs.bodies.Types.{nine_valued, KeepsTypes, HasType}
use Rattle.rtl_model.specs.bodies.Variables.{variables_after}
use Rattle.rtl_model.specs.nets.CoreNetlist.{core_netlist, core_process, seen_from}
use Rattle.rtl_model.specs.nets.FlatNetlist.{FlatDriver, FlatProcess, FlatNetlist, IsInRange, element_starts, flat_sources, no_flat_process, process_at}
use Rattle.rtl_model.specs.nets.Wiring.{IsConnected}
use Rattle.rtl_model.specs.simulation.Cycle.{State, over, is_quiet, start_state, after_update, after_inputs, after_run, with_inputs, net_value, net_values, all_driver_values, resumed_processes, IsToRun}
use Rattle.rtl_model.specs.simulation.Laws.{IsConsistent}
use Rattle.rtl_model.specs.simulation.Moments.{HasNoneToRun}
use Rattle.rtl_model.specs.simulation.Netlist.{Netlist, Process, Driver, process, sources_of, no_process}
use Rattle.rtl_model.specs.simulation.Range.{StateInRange}
use Rattle.rtl_model.proofs.basics.Lists.{Contains-first, any_at, in_contains}
use Rattle.rtl_model.proofs.nets.Connected.{connected_is_elaborated, source_below}
use Rattle.rtl_model.proofs.nets.InRange.{limit-at}
use Rattle.rtl_model.proofs.nets.Processes.{process-core_net, at_row}
use Rattle.rtl_model.proofs.nets.Sources.{sources-core_net, source_is_driver}
use Rattle.rtl_model.proofs.simulation.Consistent.{each_stays_consistent}
use Rattle.rtl_model.proofs.simulation.Rows.{get_or-map, driven_all_at, driven_at, over_none, no_entries, none_pending_at, quiet_at, quiet_from, resumed_at, event_differs}
use Rattle.rtl_model.proofs.simulation.Solution.{get_or-table}
use Rattle.rtl_variable_registers.specs.Beside.{FullState, variables_of, seen_by, full_start, full_update, full_inputs, full_run, old_rows, old_part, driver_at, transaction_at, IsKeptBy, HasVariables, IsBeside, OthersStoreNone, EachStaysBeside}
use Rattle.rtl_variable_registers.specs.Nets.{kept_flat, first_net}
use Rattle.rtl_variable_registers.specs.Processes.{kept_elements, kept_starts, kept_types, kept_process, rank_in, drivers_from}
use Rattle.rtl_variable_registers.proofs.Connected.{kept_connected, new_source, new_start, own_start, same_sources}
use Rattle.rtl_variable_registers.proofs.InRange.{kept_in_range, length_kept_starts, get_left, variables_typed}
use Rattle.rtl_variable_registers.proofs.Rows.{unwrap_is, as_many_processes, length-drivers_from, nothing_taken, take_over, old_rows_at, old_rows_set, old_rows_driven, old_rows_none}
use Rattle.rtl_variable_registers.proofs.Staying.{drivers_are}
use Rattle.rtl_variable_registers.proofs.Standing.{start_of, stands_where_it_did}
use Rattle.rtl_variable_registers.proofs.Starting.{values_same, inputs_same, drivers_begin, pending_begins, waiting_begins, resumed_same, types_below}
use Rattle.rtl_variable_registers.proofs.Stepping.{row_same, element_left, variables_left}
use Rattle.rtl_variable_registers.proofs.Tables.{place_within}
use Rattle.rtl_variable_registers.proofs.Values.{on_both}

module _ (net : FlatNetlist) (r : IsInRange net) (c : IsConnected net) (others : OthersStoreNone net) where
  abbrev core : Netlist
  core = core_netlist net

  abbrev kept : Netlist
  kept = core_netlist (kept_flat net)

  abbrev old : ℕ → FlatProcess
  old p = process_at net p

  abbrev new : ℕ → FlatProcess
  new p = kept_process (first_net net p) (old p)

  abbrev ranked : ℕ → ℕ → ℕ
  ranked p e = rank_in (kept_elements (old p)) e

  -- its net, and its driver's place
  abbrev net_of : ℕ → ℕ → ℕ
  net_of p e = first_net net p + ranked p e

  abbrev place_of : ℕ → ℕ → ℕ
  place_of p e = length (old p).drivers + ranked p e

  process_is : (p : ℕ) → p < length net.processes → process kept p ≡ core_process net.wide net.inputs (new p)
  process_is p l = process-core_net (kept_flat net) p ∙ ap (core_process net.wide net.inputs) ((stands_where_it_did net r).processes p l)

  many_drivers : (p e : ℕ) → Contains (kept_elements (old p)) e → place_of p e < length (new p).drivers
  many_drivers p e k =
      let a = place_within (kept_elements (old p)) e k in
      let b = length-drivers_from (first_net net p) (kept_starts (old p)) in
      let d = ap length (drivers_are (first_net net p) (old p)) ∙ length-append (old p).drivers (drivers_from (first_net net p) (kept_starts (old p))) in
      let f = length_kept_starts (old p) in
      omega arith

  source_is : (p e : ℕ) → p < length net.processes → Contains (kept_elements (old p)) e → flat_sources (kept_flat net) (net_of p e) ≡ Driver p (place_of p e) ∷ []
  source_is p e l k = new_source net r p (ranked p e) l (place_within (kept_elements (old p)) e k)

  net_there : (p e : ℕ) → p < length net.processes → Contains (kept_elements (old p)) e → net_of p e < length (kept_flat net).types
  net_there p e l k =
      source_below (kept_flat net) (kept_in_range net r) (net_of p e) (Driver p (place_of p e)) (subst (λ xs. Contains xs (Driver p (place_of p e))) (sym (source_is p e l k)) (Contains-first (Driver p (place_of p e)) []))

  net_starts : (p e : ℕ) → p < length net.processes → Contains (kept_elements (old p)) e → net_of p e < length (kept_flat net).start
  net_starts p e l k = let a = net_there p e l k in let b = (kept_in_range net r).each_starts in omega arith

  -- ---- inputs

  not_input : (p e : ℕ) → list_any (λ m. m == net_of p e) net.inputs ≡ false
  not_input p e = go (list_any (λ m. m == net_of p e) net.inputs) refl
    where
      go : (b : Bool) → list_any (λ m. m == net_of p e) net.inputs ≡ b → b ≡ false
      go false h = refl
      go true h =
          let is = in_contains net.inputs (net_of p e) h in
          let l = slice_get_within net.types (net_of p e) nine_valued (All-contains (HasType net.types nine_valued) net.inputs (net_of p e) r.inputs is) in
          absurd (omega arith)

  not_given : (inputs : ℕ → ℕ) (v : List ℕ) (p e : ℕ) → p < length net.processes → Contains (kept_elements (old p)) e → slice_index (with_inputs kept inputs v) (net_of p e) ≡ slice_index v (net_of p e)
  not_given inputs v p e l k =
      get_or-table (length (kept_flat net).start) (λ n. cond (list_any (λ m. m == n) net.inputs) (inputs n) (slice_index v n)) (net_of p e) (net_starts p e l k)
      ∙ ap (λ b. cond b (inputs (net_of p e)) (slice_index v (net_of p e))) (not_input p e)

  -- ---- the start

  module _ (inputs : ℕ → ℕ) where
    abbrev s0 : FullState
    s0 = full_start net inputs

    abbrev t0 : State
    t0 = start_state kept inputs

    first_same : with_inputs core inputs net.start ≡ take (length net.types) (with_inputs kept inputs (kept_flat net).start)
    first_same = inputs_same net r inputs net.start (kept_flat net).start (λ n l. sym (get_or_append_left net.start (flat_map kept_starts net.processes) 0 n (let b = r.each_starts in omega arith)))

    begun : s0.nets ≡ old_part net t0
    begun i = record {
      before = first_same i;
      now = first_same i;
      drivers = drivers_begin net.wide net.inputs (length net.types) net.processes i;
      pending = pending_begins net.wide net.inputs (length net.types) net.processes i;
      waiting = waiting_begins net.wide net.inputs (length net.types) net.processes i;
    }

    begin_none : (p place : ℕ) → transaction_at t0 p place ≡ None
    begin_none p place = ap (λ row. slice_index_or row place None) (get_or-map (λ (q : Process). map {B = Option ℕ} (λ n. None) q.drives) kept.processes p no_process) ∙ no_entries (process kept p).drives place

    begin_driver : (p e : ℕ) → p < length net.processes → Contains (kept_elements (old p)) e → driver_at t0 p (place_of p e) ≡ slice_index (kept_starts (old p)) (ranked p e)
    begin_driver p e l k =
        ap (λ row. slice_index row (place_of p e)) (get_or-map (λ (q : Process). q.starts) kept.processes p no_process ∙ ap (λ (q : Process). q.starts) (process_is p l))
        ∙ own_start (first_net net p) (ranked p e) (old p)

    begin_variables : (p : ℕ) → variables_of s0 p ≡ element_starts (old p).variables
    begin_variables p = get_or-map (λ (q : FlatProcess). element_starts q.variables) net.processes p no_flat_process

    starts_beside : IsBeside net s0 t0
    starts_beside = record {
      nets = begun;
      rows = length-map kept.processes _ ∙ length-map (kept_flat net).processes (core_process net.wide net.inputs) ∙ as_many_processes (length net.types) net.processes;
      many = length-map net.processes (λ (q : FlatProcess). element_starts q.variables);
      variables = λ p l. rw (begin_variables p) (record { many = refl; typed = variables_typed (old p).variables (r.processes p no_flat_process l).variables; unset = λ e k. refl });
      elements = λ p e l k. record {
        variable = on_both unwrap_or (begin_none p (place_of p e)) (begin_driver p e l k) ∙ start_of (old p) e k ∙ sym (ap (λ vs. slice_index vs e) (begin_variables p));
        net_is = not_given inputs (kept_flat net).start p e l k ∙ new_start net r p (ranked p e) l (place_within (kept_elements (old p)) e k) ∙ sym (begin_driver p e l k);
        ready = λ w. begin_none p (place_of p e);
      };
    }

  -- ---- steps, the nets that there were being the same

  module _ (vs : List (List ℕ)) (t : State) where
    abbrev s : FullState
    s = record { nets = old_part net t; variables = vs }

    resumed : (now : List ℕ) → resumed_processes core (take (length net.types) t.now) (take (length net.types) now) ≡ resumed_processes kept t.now now
    resumed now = resumed_same net.wide net.inputs net.types t.now now (length net.types) net.processes r.processes

    module _ (h : IsBeside net s t) where
      -- Update

      place_there : (p e : ℕ) → StateInRange kept t → p < length net.processes → Contains (kept_elements (old p)) e → place_of p e < length (slice_index_or t.drivers p [])
      place_there p e R l k =
          let a = R.each_driver p ∙ ap (λ (q : Process). length q.drives) (process_is p l) in
          let b = length-map (new p).drivers (λ (d : FlatDriver). d.net) in
          let d = many_drivers p e k in
          omega arith

      updated : (after_update core (old_part net t)) ≡ old_part net (after_update kept t)
      updated i = record {
        before = take (length net.types) t.now;
        now = now_same i;
        drivers = old_rows_driven net.processes t.pending t.drivers i;
        pending = old_rows_none net.processes t.pending i;
        waiting = (ap (resumed_processes core (take (length net.types) t.now)) now_same ∙ resumed (after_update kept t).now) i;
      }
        where
          now_same : net_values core (all_driver_values (old_rows net.processes t.pending) (old_rows net.processes t.drivers)) (take (length net.types) t.now) ≡ take (length net.types) (after_update kept t).now
          now_same =
              ap (λ d. net_values core d (take (length net.types) t.now)) (old_rows_driven net.processes t.pending t.drivers)
              ∙ values_same net r (all_driver_values t.pending t.drivers) t.now

      update_driver : (p e : ℕ) → StateInRange kept t → p < length net.processes → Contains (kept_elements (old p)) e
          → driver_at (after_update kept t) p (place_of p e) ≡ unwrap_or (transaction_at t p (place_of p e)) (driver_at t p (place_of p e))
      update_driver p e R l k =
          ap (λ row. slice_index row (place_of p e)) (driven_all_at t.pending t.drivers p)
          ∙ driven_at (slice_index_or t.pending p []) (slice_index_or t.drivers p []) (place_of p e) (place_there p e R l k)
          ∙ sym (unwrap_is (transaction_at t p (place_of p e)) (driver_at t p (place_of p e)))

      update_net : (p e : ℕ) → p < length net.processes → Contains (kept_elements (old p)) e → slice_index (after_update kept t).now (net_of p e) ≡ driver_at (after_update kept t) p (place_of p e)
      update_net p e l k =
          get_or-table (length (kept_flat net).start) (λ n. net_value kept (all_driver_values t.pending t.drivers) (sources_of kept n) (slice_index t.now n)) (net_of p e) (net_starts p e l k)
          ∙ ap (λ xs. net_value kept (all_driver_values t.pending t.drivers) xs (slice_index t.now (net_of p e))) (sources-core_net (kept_flat net) (net_of p e) (net_there p e l k) ∙ source_is p e l k)

      updates_beside : StateInRange kept t → IsBeside net (full_update net s) (after_update kept t)
      updates_beside R = record {
        nets = updated;
        rows = length-map t.pending _ ∙ h.rows;
        many = h.many;
        variables = h.variables;
        elements = λ p e l k. record {
          variable = ap (λ o. unwrap_or o (driver_at (after_update kept t) p (place_of p e))) (none_pending_at t.pending p (place_of p e)) ∙ update_driver p e R l k ∙ (h.elements p e l k).variable;
          net_is = update_net p e l k;
          ready = λ w. none_pending_at t.pending p (place_of p e);
        };
      }

      -- Inputs

      given : (inputs : ℕ → ℕ) → after_inputs core inputs (old_part net t) ≡ old_part net (after_inputs kept inputs t)
      given inputs i = record {
        before = take (length net.types) t.now;
        now = now_same i;
        drivers = old_rows net.processes t.drivers;
        pending = old_rows net.processes t.pending;
        waiting = (ap (resumed_processes core (take (length net.types) t.now)) now_same ∙ resumed (after_inputs kept inputs t).now) i;
      }
        where
          now_same : with_inputs core inputs (take (length net.types) t.now) ≡ take (length net.types) (with_inputs kept inputs t.now)
          now_same = inputs_same net r inputs (take (length net.types) t.now) t.now (λ n l. get_or-take (length net.types) t.now n 0 l)

      gives_beside : (inputs : ℕ → ℕ) → is_quiet t ≡ true → IsBeside net (full_inputs net inputs s) (after_inputs kept inputs t)
      gives_beside inputs q = record {
        nets = given inputs;
        rows = h.rows;
        many = h.many;
        variables = h.variables;
        elements = λ p e l k. record {
          variable = (h.elements p e l k).variable;
          net_is = not_given inputs t.now p e l k ∙ (h.elements p e l k).net_is;
          ready = λ w. quiet_at t q p (place_of p e);
        };
      }

      -- Run

      module _ (p : ℕ) (R : StateInRange kept t) (w : IsToRun t p) where
        types_kept : KeepsTypes net.types (take (length net.types) t.now)
        types_kept n type g =
            let l = slice_get_within net.types n type g in
            rw (get_or-take (length net.types) t.now n 0 l)
            (subst (λ k. slice_index t.now n < k) (limit-at (kept_flat net).types n type (get_left net.types (flat_map kept_types net.processes) n type g))
            (R.now.in_range n (let a = types_below net r n l in let b = (kept_in_range net r).each_starts in omega arith)))

        -- what a kept element has
        held : p < length net.processes → (e : ℕ) → Contains (kept_elements (old p)) e → driver_at t p (place_of p e) ≡ slice_index (variables_of s p) e
        held l e k = sym (ap (λ o. unwrap_or o (driver_at t p (place_of p e))) ((h.elements p e l k).ready w)) ∙ (h.elements p e l k).variable

        abbrev seen_row : List (Option ℕ)
        seen_row = effect_of (length (old p).drivers) (old p).body (seen_by s p)

        abbrev entries_of : List (Option ℕ)
        entries_of = (process kept p).effect t.before t.now

        row_taken : seen_row ≡ take (length (old p).drivers) entries_of
        row_taken = go (cases_lt p (length net.processes))
          where
            past : (q : FlatProcess) → q ≡ no_flat_process → effect_of (length q.drivers) q.body (seen_by s p) ≡ take (length q.drivers) entries_of
            past q e = subst (λ (x : FlatProcess). effect_of (length x.drivers) x.body (seen_by s p) ≡ take (length x.drivers) entries_of) (sym e) refl

            go : (p < length net.processes) ⊎ (length net.processes ≤ p) → seen_row ≡ take (length (old p).drivers) entries_of
            go (inl l) =
                row_same net.types (first_net net p) (old p) (r.processes p no_flat_process l) (λ e. others p e) t.before t.now (variables_of s p) types_kept (h.variables p l) (λ e k. (h.elements p e l k).net_is ∙ held l e k)
                ∙ ap (take (length (old p).drivers)) (sym (ap (λ (q : Process). q.effect t.before t.now) (process_is p l)))
            go (inr l) = past (old p) (get_or_past net.processes p no_flat_process l)

        ran : (full_run net p s).nets ≡ old_part net (after_run kept p t)
        ran i = record (old_part net t) { pending = rows_same i; waiting = slice_set t.waiting p false }
          where
            row : List (Option ℕ)
            row = slice_index_or t.pending p []

            rows_same : slice_set (old_rows net.processes t.pending) p (over seen_row (slice_index_or (old_rows net.processes t.pending) p [])) ≡ old_rows net.processes (slice_set t.pending p (over entries_of row))
            rows_same =
                ap (slice_set (old_rows net.processes t.pending) p) (on_both over row_taken (old_rows_at net.processes t.pending p) ∙ sym (take_over (length (old p).drivers) entries_of row))
                ∙ old_rows_set net.processes t.pending p (over entries_of row)

        -- after it
        abbrev t1 : State
        t1 = after_run kept p t

        left_with : p < length net.processes → variables_of (full_run net p s) p ≡ variables_after (seen_by s p) (old p).body
        left_with l = get_or-set_same vs p (variables_after (seen_by s p) (old p).body) [] (let a = h.many in omega arith)

        own_entry : (e : ℕ) → p < length net.processes → Contains (kept_elements (old p)) e
            → transaction_at t1 p (place_of p e) ≡ effect (seen_from (new p) t.before t.now) (new p).body (place_of p e)
        own_entry e l k =
            ap (λ row. slice_index_or row (place_of p e) None) (get_or-set_same t.pending p (over entries_of (slice_index_or t.pending p [])) [] (let a = h.rows in omega arith))
            ∙ over_none entries_of (slice_index_or t.pending p []) (place_of p e) ((h.elements p e l k).ready w)
            ∙ ap (λ (q : Process). slice_index_or (q.effect t.before t.now) (place_of p e) None) (process_is p l)
            ∙ at_row (new p).body (length (new p).drivers) (place_of p e) (seen_from (new p) t.before t.now) (many_drivers p e k)

        done_waiting : IsToRun t1 p → ⊥
        done_waiting v = go (cases_lt p (length t.waiting))
          where
            go : (p < length t.waiting) ⊎ (length t.waiting ≤ p) → ⊥
            go (inl l) = let f = get_or-set_same t.waiting p false false l in let g : false ≡ true = sym f ∙ v in cc
            go (inr l) = let f = get_or_past t.waiting p false l in let g : false ≡ true = sym f ∙ w in cc

        own_element : (e : ℕ) → p < length net.processes → Contains (kept_elements (old p)) e → IsKeptBy net (full_run net p s) t1 p e (ranked p e)
        own_element e l k = record {
          variable = on_both unwrap_or (own_entry e l k) (held l e k)
              ∙ element_left net.types (first_net net p) (old p) (r.processes p no_flat_process l) (λ d. others p d) t.before t.now (variables_of s p) types_kept (h.variables p l) (λ d j. (h.elements p d l j).net_is ∙ held l d j) e k
              ∙ sym (ap (λ xs. slice_index xs e) (left_with l));
          net_is = (h.elements p e l k).net_is;
          ready = λ v. absurd (done_waiting v);
        }

        other_element : (q e : ℕ) → (q ≡ p → ⊥) → q < length net.processes → Contains (kept_elements (old q)) e → IsKeptBy net (full_run net p s) t1 q e (ranked q e)
        other_element q e n l k = record {
          variable = ap (λ row. unwrap_or (slice_index_or row (place_of q e) None) (driver_at t q (place_of q e))) (same_row)
              ∙ (h.elements q e l k).variable ∙ sym (ap (λ xs. slice_index xs e) (get_or-set_other vs p q (variables_after (seen_by s p) (old p).body) [] n));
          net_is = (h.elements q e l k).net_is;
          ready = λ v. ap (λ row. slice_index_or row (place_of q e) None) same_row ∙ (h.elements q e l k).ready (sym (get_or-set_other t.waiting p q false false n) ∙ v);
        }
          where
            same_row : slice_index_or t1.pending q [] ≡ slice_index_or t.pending q []
            same_row = get_or-set_other t.pending p q (over entries_of (slice_index_or t.pending p [])) [] n

        variables_then : (q : ℕ) → q < length net.processes → HasVariables (old q) (variables_of (full_run net p s) q)
        variables_then q l = go (cases_eq q p)
          where
            own : (x : ℕ) → x ≡ p → x < length net.processes → HasVariables (old x) (variables_of (full_run net p s) x)
            own x e b =
                subst (λ (y : ℕ). y < length net.processes → HasVariables (old y) (variables_of (full_run net p s) y)) (sym e)
                (λ d. rw (left_with d) (variables_left net.types (first_net net p) (old p) (r.processes p no_flat_process d) (λ j. others p j) t.before t.now (variables_of s p) types_kept (h.variables p d) (λ j i. (h.elements p j d i).net_is ∙ held d j i))) b

            go : (q ≡ p) ⊎ (q ≡ p → ⊥) → HasVariables (old q) (variables_of (full_run net p s) q)
            go (inl e) = own q e l
            go (inr n) = rw (get_or-set_other vs p q (variables_after (seen_by s p) (old p).body) [] n) (h.variables q l)

        runs_beside : IsBeside net (full_run net p s) t1
        runs_beside = record {
          nets = ran;
          rows = length-set t.pending p (over entries_of (slice_index_or t.pending p [])) ∙ h.rows;
          many = length-set vs p (variables_after (seen_by s p) (old p).body) ∙ h.many;
          variables = variables_then;
          elements = λ q e l k. by q e l k (cases_eq q p);
        }
          where
            by : (q e : ℕ) → q < length net.processes → Contains (kept_elements (old q)) e → (q ≡ p) ⊎ (q ≡ p → ⊥) → IsKeptBy net (full_run net p s) t1 q e (ranked q e)
            by q e l k (inr n) = other_element q e n l k
            by q e l k (inl i) =
                subst (λ (x : ℕ). x < length net.processes → Contains (kept_elements (old x)) e → IsKeptBy net (full_run net p s) t1 x e (ranked x e)) (sym i) (λ b d. own_element e b d) l k

      -- ---- quiet states

      quiet_then : is_quiet t ≡ true → is_quiet (old_part net t) ≡ true
      quiet_then q = quiet_from (old_part net t) (λ p place l some. let e = none p place in cc)
        where
          none : (p place : ℕ) → transaction_at (old_part net t) p place ≡ None
          none p place = ap (λ row. slice_index_or row place None) (old_rows_at net.processes t.pending p) ∙ nothing_taken (length (old p).drivers) place (slice_index_or t.pending p []) (quiet_at t q p place)

      -- an old net has no transaction
      pub old_quiet : is_quiet (old_part net t) ≡ true → (n p place : ℕ) → n < length net.types → Contains (sources_of kept n) (Driver p place) → transaction_at t p place ≡ None
      old_quiet q n p place l k =
          let is = sources-core_net (kept_flat net) n (types_below net r n l) ∙ same_sources net r n l in
          let (b, e) = source_is_driver net n p place (subst (λ xs. Contains xs (Driver p place)) is k) in
          let d : place < length (old p).drivers = (let m = length-map (old p).drivers (λ (x : FlatDriver). x.net) in omega arith) in
          sym (ap (λ row. slice_index_or row place None) (old_rows_at net.processes t.pending p) ∙ get_or-take (length (old p).drivers) (slice_index_or t.pending p []) place None d)
          ∙ quiet_at (old_part net t) q p place

      none_woken : IsConsistent kept t → is_quiet (old_part net t) ≡ true → HasNoneToRun (after_update kept t)
      none_woken consistent q p v =
          let (n, k, e) = any_at (has_event t.now (after_update kept t).now) (process kept p).wakes (sym (resumed_at kept t.now (after_update kept t).now p) ∙ v) in
          let wakes = ap (λ (x : Process). x.wakes) (process-core_net (kept_flat net) p) in
          let l = (stands_where_it_did net r).wakes_below p n (subst (λ ns. Contains ns n) wakes k) in
          let there : n < length (kept_flat net).start = (let a = types_below net r n l in let b = (kept_in_range net r).each_starts in omega arith) in
          event_differs t.now (after_update kept t).now n e
          (sym ((each_stays_consistent kept (connected_is_elaborated (kept_flat net) (kept_in_range net r) (kept_connected net r c)).wiring).keeps t n consistent there (λ x place i. old_quiet q n x place l i)))

      then_quiet : is_quiet (after_update kept t) ≡ true
      then_quiet = quiet_from (after_update kept t) (λ p place l some. let e = none_pending_at t.pending p place in cc)

  -- ---- any state

  abbrev settled : FullState → State → FullState
  settled a t = record { nets = old_part net t; variables = a.variables }

  is_settled : (a : FullState) (t : State) → IsBeside net a t → a ≡ settled a t
  is_settled a t h i = record { nets = h.nets i; variables = a.variables }

  still : (a : FullState) (t : State) → IsBeside net a t → IsBeside net (settled a t) t
  still a t h = subst (λ (u : FullState). IsBeside net u t) (is_settled a t h) h

pub stays_beside : EachStaysBeside
stays_beside net r c others = record {
  starts = starts_beside net r c others;
  updates = λ s t R h. subst (λ u. IsBeside net (full_update net u) (after_update (core_netlist (kept_flat net)) t)) (sym (is_settled net r c others s t h)) (updates_beside net r c others s.variables t (still net r c others s t h) R);
  gives = λ inputs s t q h. subst (λ u. IsBeside net (full_inputs net inputs u) (after_inputs (core_netlist (kept_flat net)) inputs t)) (sym (is_settled net r c others s t h)) (gives_beside net r c others s.variables t (still net r c others s t h) inputs q);
  runs = λ p s t R w h. subst (λ u. IsBeside net (full_run net p u) (after_run (core_netlist (kept_flat net)) p t)) (sym (is_settled net r c others s t h)) (runs_beside net r c others s.variables t (still net r c others s t h) p R w);
  quiet = λ s t h q. ap is_quiet h.nets ∙ quiet_then net r c others s.variables t (still net r c others s t h) q;
  late = λ s t consistent h q. (then_quiet net r c others s.variables t (still net r c others s t h), none_woken net r c others s.variables t (still net r c others s t h) consistent (sym (ap is_quiet h.nets) ∙ q));
}
