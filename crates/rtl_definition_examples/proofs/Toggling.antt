-- The toggling register, with a reset and without, meets all premises, and its moments take what the bound says.
use Rattle.std.proofs.Common.{◌≡◌, ℕ, zero, suc, ◌<◌, ◌≤◌, Bool, true, false, [], ◌∷◌, get_or, Some, None, refl, sym, ap, arith, ◌⊎◌, inl, inr, ◌==◌, ◌||◌, subst, Contains, if◌then◌else◌}
use Rattle.std.proofs.lemmas.Bool.{eqb-true, or_cases}
use Rattle.rtl_model.specs.nets.CoreNetlist.{core_netlist}
use Rattle.rtl_model.specs.nets.Laws.{IsSound}
use Rattle.rtl_model.specs.simulation.Netlist.{Edge, HasPlace, IsClockedBy, IsCombinational, IsInput, process, Rising, target}
use Rattle.rtl_model.specs.simulation.Moments.{HasSettled, Takes}
use Rattle.rtl_model.specs.simulation.Accepted.{Feeds, IsClock}
use Rattle.rtl_model.specs.simulation.Levels.{AreLevels, bound, ChainTo, IsLevel}
use Rattle.rtl_model.specs.simulation.Report.{AreClocks, IsReport}
use Rattle.rtl_model.specs.simulation.Races.{HasNoRace}
use Rattle.rtl_model.specs.simulation.Range.{AreInputs, limit}
use Rattle.rtl_definition_examples.specs.Toggling.{toggling, one_edge, bound_of, PremisesCanBeMet, BoundsAreMet}
use Rattle.rtl_model.proofs.basics.Lists.{Contains-one}
use Rattle.rtl_model.proofs.simulation.Deltas.{after}
use Rattle.rtl_definition_examples.proofs.Computing.{first_cycle, starts_in, goes_on}
use Rattle.rtl_definition_examples.proofs.Sound.{sound_by}

pub sound : (b : Bool) → IsSound (toggling b)
sound false = sound_by (toggling false) (λ p. p) refl
sound true = sound_by (toggling true) (λ p. p) refl

-- ---- processes and inputs

input_is : (b : Bool) (n : ℕ) → IsInput (core_netlist (toggling b)) n → (n ≡ 0) ⊎ (n ≡ 1)
input_is b n h = go (or_cases (0 == n) ((1 == n) || false) h)
  where
    last : (1 == n ≡ true) ⊎ (false ≡ true) → n ≡ 1
    last (inl e) = sym (eqb-true 1 n e)
    last (inr e) = cc

    go : (0 == n ≡ true) ⊎ ((1 == n) || false ≡ true) → (n ≡ 0) ⊎ (n ≡ 1)
    go (inl e) = inl (sym (eqb-true 0 n e))
    go (inr e) = inr (last (or_cases (1 == n) false e))

-- what holds at 0 and 1 holds of every input
at_inputs : (b : Bool) (P : ℕ → Type 0) → P 0 → P 1 → (n : ℕ) → IsInput (core_netlist (toggling b)) n → P n
at_inputs b P zero' one' n h = go (input_is b n h)
  where
    go : (n ≡ 0) ⊎ (n ≡ 1) → P n
    go (inl e) = subst P (sym e) zero'
    go (inr e) = subst P (sym e) one'

clocked_is : (b : Bool) (p clock : ℕ) (edge : Edge) → IsClockedBy (core_netlist (toggling b)) p clock edge → (p ≡ 0) × (clock ≡ 0) × (edge ≡ Rising)
clocked_is false zero clock edge (r, h) = (refl, cc, cc)
clocked_is true zero clock edge (r, h) = (refl, cc, cc)
clocked_is b (suc zero) clock edge (r, h) = cc
clocked_is b (suc (suc p)) clock edge (r, h) = cc

combinational_is : (b : Bool) (p : ℕ) → IsCombinational (core_netlist (toggling b)) p → p ≡ 1
combinational_is false zero c = let h = c.1 in cc
combinational_is true zero c = let h = c.1 in cc
combinational_is b (suc zero) c = refl
combinational_is b (suc (suc p)) c = let h = c.0 in absurd (omega arith)

-- the register is clocked
is_clocked : (b : Bool) → IsClockedBy (core_netlist (toggling b)) 0 0 Rising
is_clocked false = (_, refl)
is_clocked true = (_, refl)

fed : (b : Bool) (p q : ℕ) → Feeds (core_netlist (toggling b)) p q → ⊥
fed b p q f = go p q (combinational_is b p f.feeder) (combinational_is b q f.fed) f.place f.drives f.wakes
  where
    go : (p q : ℕ) → p ≡ 1 → q ≡ 1 → (place : ℕ) → HasPlace (core_netlist (toggling b)) p place → Contains (process (core_netlist (toggling b)) q).wakes (target (core_netlist (toggling b)) p place) → ⊥
    go (suc zero) (suc zero) i j zero l w = let e = Contains-one 2 3 w in cc
    go (suc zero) (suc zero) i j (suc place) l w = absurd (omega arith)
    go zero q i j place l w = cc
    go (suc zero) zero i j place l w = cc
    go (suc zero) (suc (suc q)) i j place l w = cc
    go (suc (suc p)) q i j place l w = cc

-- ---- the stimulus

code_below : (x : Bool) (v w : ℕ) → v < 9 → w < 9 → (if x then v else w) < 9
code_below true v w l k = l
code_below false v w l k = k

inputs_in_range : (b : Bool) (m : ℕ) → AreInputs (core_netlist (toggling b)) (one_edge b m)
inputs_in_range b m = at_inputs b (λ n. one_edge b m n < limit (core_netlist (toggling b)) n) (code_below (m == 0) 2 3 (omega arith) (omega arith)) (code_below b 3 2 (omega arith) (omega arith))

no_race : (b : Bool) (last : ℕ) → HasNoRace (core_netlist (toggling b)) (one_edge b) last
no_race b last zero l race = race
no_race b last (suc m) l race =
    at_inputs b (λ n. (IsClock (core_netlist (toggling b)) n → ⊥) → (one_edge b m n ≡ one_edge b (suc m) n → ⊥) → ⊥)
    (λ no_clock changes. no_clock (0, (Rising, is_clocked b))) (λ no_clock changes. changes refl) race.input race.is_input race.no_clock race.changes

-- ---- the report

level_one : (b : Bool) → IsLevel (core_netlist (toggling b)) 1 1
level_one b = record { reached = (omega arith, refl); longest = longest }
  where
    longest : (n : ℕ) → ChainTo (core_netlist (toggling b)) 1 n → n ≤ 1
    longest zero c = omega arith
    longest (suc zero) c = omega arith
    longest (suc (suc n)) (p, c, f) = absurd (fed b p 1 f)

pub levels_are : (b : Bool) → AreLevels (core_netlist (toggling b)) (None ∷ Some 1 ∷ []) 1
levels_are b = record {
  each_process = refl;
  combinational = λ p c. rw (combinational_is b p c) (1, refl, level_one b);
  clocked = λ p clock edge is. rw (clocked_is b p clock edge is).0 refl;
  none_above = above;
  met = λ h. (1, refl);
}
  where
    above : (p level : ℕ) → get_or (None ∷ Some 1 ∷ []) p None ≡ Some level → level ≤ 1
    above zero level e = cc
    above (suc zero) level e = let f : 1 ≡ level = cc in omega arith
    above (suc (suc p)) level e = cc

clocks : (b : Bool) → AreClocks (core_netlist (toggling b)) ((0, Rising) ∷ [])
clocks b = record {
  are = λ n edge. (tested n edge, λ (p, is). let (i, j, k) = clocked_is b p n edge is in rw (j, k) (0, omega arith, refl));
  rise = λ i j d l k. absurd (omega arith);
}
  where
    tested : (n : ℕ) (edge : Edge) → Contains {X = ℕ × Edge} ((0, Rising) ∷ []) (n, edge) → (p : ℕ) × IsClockedBy (core_netlist (toggling b)) p n edge
    tested n edge c =
        let e = Contains-one (0, Rising) (n, edge) c in
        let i : 0 ≡ n = ap (λ (x : ℕ × Edge). x.0) e in
        let j : Rising ≡ edge = ap (λ (x : ℕ × Edge). x.1) e in
        rw (← i, ← j) (0, is_clocked b)

report : (b : Bool) → IsReport (core_netlist (toggling b)) (None ∷ Some 1 ∷ []) (None ∷ None ∷ []) ((0, Rising) ∷ []) (bound_of b)
report b = record {
  greatest = 1;
  levels_are = levels_are b;
  from_combinational = λ p c. rw (combinational_is b p c) (level_one b);
  rest = record {
    by_processes = λ (wide, judged). cc;
    bound_is = bounds b;
    each_from = refl;
    from_clocked = λ p clock edge is. rw (clocked_is b p clock edge is).0 refl;
    clocks_are = clocks b;
  };
}
  where
    bounds : (b : Bool) → bound_of b ≡ bound (core_netlist (toggling b)) 1
    bounds false = refl
    bounds true = refl

pub premises_can_be_met : PremisesCanBeMet
premises_can_be_met b = record { sound = sound b; inputs = inputs_in_range b; no_race = no_race b; report = report b }

-- ---- the counts

start_0 : HasSettled (core_netlist (toggling false)) (one_edge false) 0 1 (after (core_netlist (toggling false)) 1 (first_cycle (core_netlist (toggling false)) (one_edge false 0)))
start_0 = starts_in (core_netlist (toggling false)) (one_edge false) 1 refl

pub edge_takes_two : Takes (core_netlist (toggling false)) (one_edge false) 1 2
edge_takes_two = (_, goes_on (core_netlist (toggling false)) (one_edge false) 0 1 (after (core_netlist (toggling false)) 1 (first_cycle (core_netlist (toggling false)) (one_edge false 0))) 2 start_0 refl)

pub bounds_are_met : BoundsAreMet
bounds_are_met = record {
  start_takes_one = (_, start_0);
  edge_takes_two = edge_takes_two;
  reset_takes_three = (_, starts_in (core_netlist (toggling true)) (one_edge true) 3 refl);
}
