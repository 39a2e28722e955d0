-- Flat netlists that are accepted simulate the synchronous machine; and a process that stores no variable forgets
-- them all.
use Rattle.std.proofs.Common.{◌≡◌, ℕ, suc, ◌-◌, ◌<◌, ◌≤◌, true, false, List, [], ◌∷◌, length, map, slice_index, Some, refl, sym, ap, ◌∙◌, arith, length-append, ◌⊎◌, inl, inr}
use Rattle.std.specs.List.{range_with_len}
use Rattle.std.proofs.lemmas.List.{get_or_past}
use Rattle.std.proofs.lemmas.Bool.{cases_lt, lt-ltb}
use Rattle.rtl_model.specs.bodies.Effect.{effect}
use Rattle.rtl_model.specs.bodies.Looks.{Sight, net_now, net_before, element_kept, seen_at}
use Rattle.rtl_model.specs.bodies.Laws.{IsRead}
use Rattle.rtl_model.specs.bodies.Values.{Seen}
use Rattle.rtl_model.specs.bodies.Stored.{stores_element}
use Rattle.rtl_model.specs.nets.FlatNetlist.{FlatVariable, element_starts}
use Rattle.rtl_model.specs.nets.CoreNetlist.{core_netlist, element_number, raised_by, stores_one, seen_from}
use Rattle.rtl_model.specs.nets.Laws.{EachForgets, EachStateIsInRange, SettlesAsMachine, EachSimulatesTheMachine, EachHasOneSolution}
use Rattle.rtl_model.specs.simulation.Cycle.{State}
use Rattle.rtl_model.specs.simulation.Moments.{Begun}
use Rattle.rtl_model.specs.simulation.NetLevels.{IsBound}
use Rattle.rtl_model.proofs.bodies.LooksRead.{looks_at_reads}
use Rattle.rtl_model.proofs.nets.InRange.{keeps_range}
use Rattle.rtl_model.proofs.nets.Connected.{connected_is_elaborated}
use Rattle.rtl_model.proofs.nets.SourcesInRange.{sources_keep_range}
use Rattle.rtl_model.proofs.simulation.Solution.{one_solution}
use Rattle.rtl_model.proofs.simulation.Settling.{settles_in_bound, is_the_machine, each_moment_comes}
use Rattle.rtl_model.proofs.simulation.Runs.{one_machine_run}
use Rattle.rtl_model.proofs.simulation.StatesInRange.{states_in_range}

-- ---- variables

-- each element has a place in a variable
record HasPlace (vs : List FlatVariable) (e : ℕ) : Type 0 where
  variable : ℕ
  place : ℕ
  number : element_number vs variable place ≡ Some e

has_place : (vs : List FlatVariable) (e : ℕ) → e < length (element_starts vs) → HasPlace vs e
has_place [] e l = absurd (omega arith)
has_place (v ∷ vs) e l = go (cases_lt e (length v.starts)) (λ k m. has_place vs k m)
  where
    go : (e < length v.starts) ⊎ (length v.starts ≤ e) → ((k : ℕ) → k < length (element_starts vs) → HasPlace vs k) → HasPlace (v ∷ vs) e
    go (inl m) more = record { variable = 0; place = e; number = rw (lt-ltb e (length v.starts) m) refl }
    go (inr m) more =
        let k : ℕ = e - length v.starts in
        let there = more k (omega (arith, length-append v.starts (element_starts vs))) in
        record { variable = suc there.variable; place = there.place; number = ap (raised_by (length v.starts)) there.number ∙ ap (λ (x : ℕ). Some x) (omega arith) }

pub each_forgets : EachForgets
each_forgets wide inputs p none before now values l =
    λ i. map (λ k. same k i) (range_with_len 0 (length p.drivers))
  where
    stored : (e : ℕ) → stores_element e p.body ≡ true → slice_index values e ≡ slice_index (element_starts p.variables) e
    stored e t = go (cases_lt e (length (element_starts p.variables)))
      where
        go : (e < length (element_starts p.variables)) ⊎ (length (element_starts p.variables) ≤ e) → slice_index values e ≡ slice_index (element_starts p.variables) e
        go (inl m) =
            let h = has_place p.variables e m in
            let f : stores_one p.body (element_number p.variables h.variable h.place) ≡ false = none h.variable h.place in
            let g : stores_one p.body (element_number p.variables h.variable h.place) ≡ true = ap (stores_one p.body) h.number ∙ t in
            absurd cc
        go (inr m) = get_or_past values e 0 (omega arith) ∙ sym (get_or_past (element_starts p.variables) e 0 m)

    seen : Seen
    seen = record { before = before; now = now; variables = values }

    at : (sight : Sight) → IsRead p.body sight → seen_at seen sight ≡ seen_at (seen_from p before now) sight
    at (net_now n) r = refl
    at (net_before n) r = refl
    at (element_kept e) r = stored e r

    same : (k : ℕ) → effect seen p.body k ≡ effect (seen_from p before now) p.body k
    same k = looks_at_reads p.body seen (seen_from p before now) l at k

-- ---- the headline

pub each_state_is_in_range : EachStateIsInRange
each_state_is_in_range net in_range connected =
    (states_in_range (core_netlist net) (connected_is_elaborated net in_range connected).wiring (keeps_range net in_range) (sources_keep_range net in_range connected)).1

pub each_simulates_the_machine : EachSimulatesTheMachine
each_simulates_the_machine net sound stimulus = record { settles = settles; begins = begins; one_run = one_machine_run (core_netlist net) (connected_is_elaborated net sound.in_range sound.connected) sound.accepted stimulus }
  where
    settles : (greatest most : ℕ) → IsBound (core_netlist net) greatest most
        → (m : ℕ) (s : State) → Begun (core_netlist net) stimulus m s → SettlesAsMachine net greatest most stimulus m s
    settles greatest most V m s begun =
        let (k, settles, bounded, at_start) = settles_in_bound (core_netlist net) greatest most (connected_is_elaborated net sound.in_range sound.connected) sound.accepted V stimulus m s begun in
        record {
          deltas = k;
          settles = settles;
          in_bound = bounded;
          at_start = at_start;
          is_machine = λ no_race t deltas v run. is_the_machine (core_netlist net) (connected_is_elaborated net sound.in_range sound.connected) sound.accepted stimulus m no_race k t (s, begun, (settles, deltas)) v run;
        }

    begins : (m : ℕ) → (s : State) × Begun (core_netlist net) stimulus m s
    begins m =
        let (k, t, (s, begun, to)) = each_moment_comes (core_netlist net) (connected_is_elaborated net sound.in_range sound.connected) sound.accepted stimulus m in
        (s, begun)

pub each_has_one_solution : EachHasOneSolution
each_has_one_solution net sound = one_solution (core_netlist net) (connected_is_elaborated net sound.in_range sound.connected) sound.accepted
