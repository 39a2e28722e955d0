-- A kernel before its first run.
use Rattle.std.proofs.Common.{◌≡◌, ℕ, zero, suc, ◌+◌, ◌<◌, ◌≤◌, Bool, true, List, [], ◌∷◌, ◌++◌, length, get_or, map, replicate, take, Option, None, refl, sym, ap, subst, ◌∙◌, arith, ◌⊎◌, inl, inr, IsSome, Contains, All, append_assoc, length-append, ◌-◌}
use Rattle.std.proofs.lemmas.Bool.{cases_lt}
use Rattle.std.proofs.lemmas.Option.{slice_get_within}
use Rattle.std.proofs.lemmas.List.{append-nil, get_or_append_left, get_or-append_right, get_or_default, length-map, length-replicate, map_more, map_push}
use Rattle.vhdl_values.specs.declared.scalar.Nine.{Nine}
use Rattle.vhdl_values.specs.Scalar.{code_of}
use Rattle.vhdl_values.proofs.Codes.{code_of_below}
use Rattle.rtl_model.specs.bodies.Types.{ElementType, nine_valued}
use Rattle.rtl_model.specs.nets.FlatNetlist.{FlatNetlist, FlatProcess, FlatVariable, FlatDriver, IsInRange, element_starts, no_flat_process}
use Rattle.rtl_model.specs.nets.CoreNetlist.{core_netlist, core_process}
use Rattle.rtl_model.specs.nets.Wiring.{IsConnected}
use Rattle.rtl_model.specs.simulation.Netlist.{Process}
use Rattle.rtl_model.specs.simulation.Cycle.{start_state, with_inputs}
use Rattle.rtl_model.specs.simulation.Laws.{IsConsistent}
use Rattle.rtl_model.specs.simulation.Range.{AreInputs, StateInRange}
use Rattle.rtl_model.proofs.basics.Lists.{contains_in, in_contains, get_or-map_within}
use Rattle.rtl_model.proofs.nets.InRange.{keeps_range, limit-at}
use Rattle.rtl_awaited_edges.specs.Awaiting.{AwaitFirst}
use Rattle.rtl_drives.specs.Outcomes.{Outcome}
use Rattle.rtl_net_groups.specs.Cuts.{AreCutsOf}
use Rattle.rtl_net.specs.Core.{core}
use Rattle.rtl_net.specs.Nets.{NetlistView, flat, driver_view, process_view}
use Rattle.rtl_net.specs.declared.process.Driver as r
use Rattle.rtl_net.specs.declared.process.Process as q
use Rattle.rtl_kernel.specs.drivers.Starts.{AreFresh, elements_of, no_entries, start_row, starts_of}
use Rattle.rtl_kernel.specs.drivers.Brought.{NotedNets}
use Rattle.rtl_kernel.specs.drivers.Transactions.{all_targets, no_outcome}
use Rattle.rtl_kernel.specs.kernel.Given.{AreFirst}
use Rattle.rtl_kernel.specs.kernel.Kept.{HaveRoom, IsKernel, IsSound, Parts, RunBodies, state_of}
use Rattle.rtl_kernel.specs.kernel.Simulation.{each_given, initial_inputs}
use Rattle.rtl_kernel.specs.values.TwoValues.{TwoValues, AreChanged}
use Rattle.rtl_kernel.proofs.Changing.{changed_below, given_values}
use Rattle.rtl_kernel.proofs.Inputs.{input_has}
use Rattle.rtl_kernel.proofs.Steps.{keeps, stays}
use Rattle.rtl_kernel.proofs.Updating.{none_in_replicate}
use Rattle.rtl_kernel.proofs.Wholes.{cuts_there}
use Rattle.rtl_kernel.proofs.Wiring.{nets_there}

-- ---- the lists of the code, and those of rtl_model

starts_are : (ds : List r.Driver) → starts_of ds ≡ map (λ (d : FlatDriver). d.start) (map driver_view ds)
starts_are [] = refl
starts_are (d ∷ ds) = ap (λ (xs : List ℕ). d.start ∷ xs) (starts_are ds)

nones_are : (ds : List r.Driver) → replicate {A = Option ℕ} (length ds) None ≡ map {B = Option ℕ} (λ (n : ℕ). None) (map (λ (d : FlatDriver). d.net) (map driver_view ds))
nones_are [] = refl
nones_are (d ∷ ds) = ap (λ (xs : List (Option ℕ)). None ∷ xs) (nones_are ds)

module _ (wide : Bool) (inputs : List ℕ) where
  drivers_are : (ps : List q.Process) → map start_row ps ≡ map (λ (p : Process). p.starts) (map (core_process wide inputs) (map process_view ps))
  drivers_are [] = refl
  drivers_are (p ∷ ps) = let rest = drivers_are ps in λ i. starts_are p.drives.items i ∷ rest i

  pending_are : (ps : List q.Process) → map no_entries ps ≡ map (λ (p : Process). map {B = Option ℕ} (λ (n : ℕ). None) p.drives) (map (core_process wide inputs) (map process_view ps))
  pending_are [] = refl
  pending_are (p ∷ ps) = let rest = pending_are ps in λ i. nones_are p.drives.items i ∷ rest i

  waiting_are : (ps : List q.Process) → replicate (length ps) true ≡ map (λ (p : Process). true) (map (core_process wide inputs) (map process_view ps))
  waiting_are [] = refl
  waiting_are (p ∷ ps) = ap (λ (bs : List Bool). true ∷ bs) (waiting_are ps)

-- ---- outcomes

each_none : (ps : List q.Process) (p : ℕ) → length (get_or (map no_entries ps) p []) ≡ length (get_or (map process_view ps) p no_flat_process).drivers
each_none [] p = refl
each_none (x ∷ ps) zero = length-replicate (length x.drives.items) None ∙ sym (length-map x.drives.items driver_view)
each_none (x ∷ ps) (suc p) = each_none ps p

pub each_fresh : (ps : List q.Process) (p : ℕ) → length (get_or (map start_row ps) p []) ≡ length (get_or (map no_entries ps) p [])
each_fresh [] p = refl
each_fresh (x ∷ ps) zero = length-map x.drives.items _ ∙ sym (length-replicate (length x.drives.items) None)
each_fresh (x ∷ ps) (suc p) = each_fresh ps p

each_element : (ps : List q.Process) (p : ℕ) → get_or (map elements_of ps) p [] ≡ element_starts (get_or (map process_view ps) p no_flat_process).variables
each_element [] p = refl
each_element (x ∷ ps) zero = refl
each_element (x ∷ ps) (suc p) = each_element ps p

pub none_fresh : (ps : List q.Process) (p : ℕ) → (place : ℕ) × IsSome (get_or (get_or (map no_entries ps) p []) place None) → ⊥
none_fresh [] p (place, some) = absurd cc
none_fresh (x ∷ ps) zero (place, some) = none_in_replicate (length x.drives.items) place some
none_fresh (x ∷ ps) (suc p) a = none_fresh ps p a

-- ---- new values of all inputs

pub given_named : (ns : List ℕ) (vs : List Nine) (n value : ℕ) → Contains (each_given ns vs) (n, value) → Contains ns n
given_named [] vs n value (k, l, e) = absurd (omega arith)
given_named (m ∷ ns) [] n value (k, l, e) = absurd (omega arith)
given_named (m ∷ ns) (v ∷ vs) n value (zero, l, e) = (zero, omega arith, ap (λ (c : ℕ × ℕ). c.0) e)
given_named (m ∷ ns) (v ∷ vs) n value (suc k, l, e) = let (j, within, is) = given_named ns vs n value (k, omega arith, e) in (suc j, omega arith, is)

pub given_below : (ns : List ℕ) (vs : List Nine) → All (λ (c : ℕ × ℕ). c.1 < 9) (each_given ns vs)
given_below [] vs k d l = absurd (omega arith)
given_below (m ∷ ns) [] k d l = absurd (omega arith)
given_below (m ∷ ns) (v ∷ vs) zero d l = code_of_below v
given_below (m ∷ ns) (v ∷ vs) (suc k) d l = given_below ns vs k d (omega arith)

pub given_at : (ns : List ℕ) (vs : List Nine) (k d code : ℕ) (e : Nine) → k < length ns → k < length vs → code ≡ code_of (get_or vs k e) → get_or (each_given ns vs) k (0, 0) ≡ (get_or ns k d, code)
given_at [] vs k d code e l m is = absurd (omega arith)
given_at (n ∷ ns) [] k d code e l m is = absurd (omega arith)
given_at (n ∷ ns) (v ∷ vs) zero d code e l m is = λ i. (n, sym is i)
given_at (n ∷ ns) (v ∷ vs) (suc k) d code e l m is = given_at ns vs k d code e (omega arith) (omega arith) is

pub length-given : (ns : List ℕ) (vs : List Nine) → length vs ≡ length ns → length (each_given ns vs) ≡ length ns
length-given [] vs e = refl
length-given (n ∷ ns) [] e = absurd (omega arith)
length-given (n ∷ ns) (v ∷ vs) e = ap suc (length-given ns vs (omega arith))

module _ (net : FlatNetlist) (R : IsInRange net) (initial : List Nine) where
  pub first_is : (now : List ℕ) → AreChanged (each_given net.inputs initial) net.start now
      → now ≡ with_inputs (core_netlist net) (initial_inputs net initial) net.start
  first_is now A =
      given_values (core_netlist net) (each_given net.inputs initial) net.start now refl A
      (λ n value h. contains_in net.inputs n (given_named net.inputs initial n value h))

  pub first_inputs : AreInputs (core_netlist net) (initial_inputs net initial)
  first_inputs n is_input =
      let has = input_has net R n (in_contains net.inputs n is_input) in
      let limit_is = limit-at net.types n nine_valued has in
      let there : n < length net.start = rw (R.each_starts) (slice_get_within net.types n nine_valued has) in
      rw limit_is (changed_below (each_given net.inputs initial) net.start n 9 (given_below net.inputs initial)
      (rw limit_is at ((keeps_range net R).starts_in_range.in_range n there)))

-- outcomes before any run have the room that the bodies want
pub have_room : {E : Type 0} (most : E → ℕ) (net : NetlistView) (bodies : List E) (outcomes : List Outcome) → length bodies ≡ length (flat net).processes
    → AreFresh most net.processes bodies outcomes → HaveRoom most (flat net) bodies outcomes
have_room most net bodies outcomes as_many F = record {
  as_many = many ∙ sym (length-map net.processes process_view);
  own = λ p l. record {
    each_driver = ap length (sym (get_or-map_within (λ (o : Outcome). o.entries) outcomes p no_outcome [] l))
        ∙ ap (λ (rows : List (List (Option ℕ))). length (get_or rows p [])) F.entries ∙ each_none net.processes p;
    each_element = sym (get_or-map_within (λ (o : Outcome). o.starts) outcomes p no_outcome [] l)
        ∙ ap (λ (rows : List (List ℕ)). get_or rows p []) F.starts ∙ each_element net.processes p;
  };
  room = λ p e l. F.room p e (omega (arith, l, many, as_many, length-map net.processes process_view)) l;
}
  where
    many : length outcomes ≡ length net.processes
    many = sym (length-map outcomes (λ (o : Outcome). o.entries)) ∙ ap length F.entries ∙ length-map net.processes no_entries

-- ---- the kernel

module _ {E : Type 0} (process : E → FlatProcess) (types : E → List ElementType) (most : E → ℕ) (bodies : List E) (net : NetlistView) (k : Parts)
    (initial : List Nine) (R : IsInRange (flat net)) (C : IsConnected (flat net)) (B : RunBodies process types (flat net) bodies) (N : AreFirst net initial k.nets)
    (drivers : k.drivers.drivers ≡ map start_row net.processes) (F : AreFresh most net.processes bodies k.drivers.outcomes)
    (waiting : k.resumed.waiting ≡ replicate (length net.processes) true) where
  abbrev v : TwoValues
  v = k.nets.values

  abbrev inputs : ℕ → ℕ
  inputs = initial_inputs (flat net) initial

  current_is : v.current ≡ with_inputs (core_netlist (flat net)) inputs net.starts
  current_is = first_is (flat net) R initial v.current N.current

  pub is_started : state_of v k.drivers k.resumed ≡ start_state (core_netlist (flat net)) inputs
  is_started =
      let first = N.no_event ∙ current_is in
      let rows = drivers ∙ drivers_are net.wide net.inputs net.processes in
      let pending = F.entries ∙ pending_are net.wide net.inputs net.processes in
      let waits = waiting ∙ waiting_are net.wide net.inputs net.processes in
      λ i. record { before = first i; now = current_is i; drivers = rows i; pending = pending i; waiting = waits i }

  sound : IsSound (flat net) (state_of v k.drivers k.resumed)
  sound = record {
    each_process = ap length waiting ∙ length-replicate (length net.processes) true ∙ sym (length-map net.processes process_view);
    each_row = ap length drivers ∙ length-map net.processes start_row ∙ sym (length-map net.processes process_view);
    in_range = subst (StateInRange (core_netlist (flat net))) (sym is_started) ((keeps (flat net) R C).starts inputs (first_inputs (flat net) R initial));
    consistent = subst (IsConsistent (core_netlist (flat net))) (sym is_started) ((stays (flat net) R C).starts inputs);
    fresh = λ p waits a. none_fresh net.processes p (subst (λ (rows : List (List (Option ℕ))). (place : ℕ) × IsSome (get_or (get_or rows p []) place None)) F.entries a);
  }

  pub kept_started : AreCutsOf v.groups.of_net (all_targets net.processes) k.cuts → AwaitFirst (core net) k.awaited k.await_it
      → IsKernel process types most bodies k
  kept_started are_cuts awaits =
      subst (λ (n : NotedNets). IsKernel process types most bodies (record k { nets = n })) same (record {
        of_net = record {
          in_range = R;
          connected = C;
          run_bodies = B;
          is_index = N.is_index;
          are_cuts = cuts_there net v.groups k.cuts (nets_there net R) are_cuts;
          awaits = awaits;
        };
        room = have_room most net bodies k.drivers.outcomes B.as_many F;
        sound = sound;
        idle = N.none_noted;
      })
    where
      same : record (k.nets) { net = net } ≡ k.nets
      same = λ i. record { net = sym N.net_is i; values = v; noted = k.nets.noted }

-- ---- one process more

pub element_starts-push : (vs : List FlatVariable) (v : FlatVariable) → element_starts (vs ++ v ∷ []) ≡ element_starts vs ++ v.starts
element_starts-push [] v = append-nil v.starts
element_starts-push (w ∷ vs) v = ap (λ (xs : List ℕ). w.starts ++ xs) (element_starts-push vs v) ∙ sym (append_assoc w.starts (element_starts vs) v.starts)

pub fresh_more : {E : Type 0} (most : E → ℕ) (ps : List q.Process) (bodies : List E) (os : List Outcome) (k : ℕ) (o : Outcome) (d : q.Process) (b : E) → k < length ps → length os ≡ k
    → AreFresh most (take k ps) bodies os → o.entries ≡ no_entries (get_or ps k d) → o.starts ≡ elements_of (get_or ps k d) → k < length bodies → most (get_or bodies k b) ≤ o.room
    → AreFresh most (take (k + 1) ps) bodies (os ++ o ∷ [])
fresh_more {E} most ps bodies os k o d b l many F entries elements in_bodies room = record {
  entries = map_push (λ (x : Outcome). x.entries) os o ∙ (λ i. F.entries i ++ entries i ∷ []) ∙ sym (map_more no_entries ps k d l);
  starts = map_push (λ (x : Outcome). x.starts) os o ∙ (λ i. F.starts i ++ elements i ∷ []) ∙ sym (map_more elements_of ps k d l);
  room = λ j e within here. roomy j e here (cases_lt j k) (omega (arith, within, length-append os (o ∷ []), many));
}
  where
    roomy : (j : ℕ) (e : E) → j < length bodies → (j < k) ⊎ (k ≤ j) → j < k + 1 → most (get_or bodies j e) ≤ (get_or (os ++ o ∷ []) j no_outcome).room
    roomy j e here (inl less) _ = rw (get_or_append_left os (o ∷ []) no_outcome j (rw many less)) (F.room j e (rw many less) here)
    roomy j e here (inr le) lt =
        let same : j ≡ k = omega arith in
        let last : get_or (os ++ o ∷ []) k no_outcome ≡ o = get_or-append_right os (o ∷ []) k k no_outcome many (omega arith) ∙ (let z : k - k ≡ 0 = omega arith in ap (λ (m : ℕ). get_or (o ∷ []) m no_outcome) z) in
        rw (same, last, get_or_default bodies k e b in_bodies) room
