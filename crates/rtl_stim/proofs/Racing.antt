-- The first time with a race has the first race.
use Rattle.std.proofs.Common.{◌≡◌, ℕ, suc, zero, ◌-◌, ◌<◌, ◌≤◌, true, List, length, get_or, ⊎_elim, sym, ap, subst, ◌∙◌, arith}
use Rattle.std.specs.Prelude.{Contains, IsTrue, ◌==◌, slice_index, slice_index_or}
use Rattle.std.specs.List.Sorted.{IsStrictlyIncreasing}
use Rattle.std.proofs.Math.Nat.{eq-or-lt_of_le}
use Rattle.std.proofs.lemmas.Bool.{cases_lt}
use Rattle.std.proofs.lemmas.Bool.Decides.{nat_tests}
use Rattle.std.proofs.lemmas.List.Kept.{AllPairs-from_increasing}
use Rattle.std.proofs.lemmas.Option.{slice_get-get_or, get_or_from_slice_get}
use Rattle.vhdl_values.specs.Scalar.{value_of_code}
use Rattle.vhdl_values.specs.Edges.{has_edge}
use Rattle.vhdl_values.proofs.Codes.{value_of_code-code_of}
use Rattle.rtl_model.specs.nets.FlatNetlist.{FlatNetlist}
use Rattle.rtl_model.specs.nets.CoreNetlist.{core_netlist}
use Rattle.rtl_model.specs.simulation.Netlist.{Edge, Rising, IsInput, IsClockedBy}
use Rattle.rtl_model.specs.simulation.Races.{IsRace, HasNoRace, IsActive, IsChangedData, IsLowestRace, IsFirstRace}
use Rattle.rtl_model.specs.simulation.Report.{AreClocks}
use Rattle.rtl_stim_lines.specs.Times.{all_nets, value_at, is_moment}
use Rattle.rtl_stim.specs.Stimuli.{StimulusView, moments, inputs_at, code_at}
use Rattle.rtl_stim.specs.Quiet.{IsNoClock, IsActiveAt, IsChangedAt, IsRaceHere, HasNoneHere, clock_at, edge_at}
use Rattle.rtl_stim.proofs.Next.{any_from, any_has}
use Rattle.rtl_stim.proofs.MomentLists.{rise}
use Rattle.rtl_stim.proofs.Edges.{each_moment, other_times, race_has_time}

at_default : {X : Type 0} (xs : List X) (i : ℕ) (d e : X) → i < length xs → get_or xs i e ≡ get_or xs i d
at_default xs i d e within = get_or_from_slice_get xs i (get_or xs i d) e (slice_get-get_or xs i d within)

module _ (f : FlatNetlist) (s : StimulusView) (clocks : List (ℕ × Edge)) (are : AreClocks (core_netlist f) clocks) (same : all_nets s.inputs ≡ f.inputs) where
  -- ---- clocks and inputs by their places

  edge_is : (edge : Edge) (n t : ℕ) → (core_netlist f).edge edge (code_at s (t - 1) n) (code_at s t n) ≡ has_edge edge (value_at s.inputs s.schedule n (t - 1)) (value_at s.inputs s.schedule n t)
  edge_is edge n t =
      ap (λ v. has_edge edge v (value_of_code (code_at s t n))) (value_of_code-code_of (value_at s.inputs s.schedule n (t - 1)))
      ∙ ap (has_edge edge (value_at s.inputs s.schedule n (t - 1))) (value_of_code-code_of (value_at s.inputs s.schedule n t))

  clock_place : (n : ℕ) (edge : Edge) → Contains clocks (n, edge) → (k : ℕ) × (k < length clocks) × (slice_index_or clocks k (0, Rising) ≡ (n, edge))
  clock_place n edge (k, within, is) = (k, within, at_default clocks k (n, edge) (0, Rising) within ∙ is)

  active_at : (t n : ℕ) (edge : Edge) (k : ℕ) → slice_index_or clocks k (0, Rising) ≡ (n, edge) → IsTrue ((core_netlist f).edge edge (code_at s (t - 1) n) (code_at s t n)) → IsActiveAt s clocks t k
  active_at t n edge k is active =
      let P : ℕ × Edge → Type 0 = λ p. IsTrue (has_edge p.1 (value_at s.inputs s.schedule p.0 (t - 1)) (value_at s.inputs s.schedule p.0 t)) in
      subst P (sym is) (sym (edge_is edge n t) ∙ active)

  input_place : (n : ℕ) → IsInput (core_netlist f) n → (j : ℕ) × (j < length f.inputs) × (slice_index f.inputs j ≡ n)
  input_place n is =
      let at = any_from (λ m. m == n) f.inputs 0 is in
      let e : get_or f.inputs at.0 0 ≡ n = let h = at.2 in grind (arith, nat_tests) in
      (at.0, at.1, e)

  no_clock_of : (n : ℕ) → ((p : ℕ) × ((edge : Edge) × IsClockedBy (core_netlist f) p n edge) → ⊥) → IsNoClock clocks n
  no_clock_of n none edge there = let by = (are.are n edge).0 there in none (by.0, (edge, by.1))

  -- where nothing is found there is no race
  pub no_race : (t : ℕ) → HasNoneHere s clocks f.inputs t → IsRace (core_netlist f) (code_at s (t - 1)) (code_at s t) → ⊥
  no_race t none race =
      let at = clock_place race.clock race.edge ((are.are race.clock race.edge).1 (race.process, race.clocked)) in
      let input = input_place race.input race.is_input in
      let changed : IsChangedAt s clocks t race.input = (no_clock_of race.input race.no_clock, race.changes) in
      none at.0 input.0 at.1 (active_at t race.clock race.edge at.0 at.2 race.active) input.1 (subst (IsChangedAt s clocks t) (sym input.2) changed)

  -- ---- the first

  module _ (t input clock : ℕ) (here : IsRaceHere s clocks f.inputs t input clock) (inputs_rise : IsStrictlyIncreasing f.inputs) where
    lowest_input : (n : ℕ) → n < input → IsChangedData (core_netlist f) clocks (code_at s (t - 1)) (code_at s t) n → ⊥
    lowest_input n less changed =
        let at = input_place n changed.is_input in
        let up = AllPairs-from_increasing f.inputs inputs_rise in
        let before : at.0 < here.place =
        ⊎_elim (λ h. h) (λ not_before. absurd (⊎_elim (λ e. let p = ap (λ j. slice_index f.inputs j) e in omega (arith, p, here.input_is, at.2, less))
        (λ behind. let h = up here.place at.0 0 behind at.1 in omega (arith, h, here.input_is, at.2, less)) (eq-or-lt_of_le not_before)))
        (cases_lt at.0 here.place) in
        here.first_input at.0 before (subst (IsChangedAt s clocks t) (sym at.2) (changed.no_clock, changed.changes))

    lowest_clock : (n : ℕ) → n < clock → IsActive (core_netlist f) clocks (code_at s (t - 1)) (code_at s t) n → ⊥
    lowest_clock n less (edge, there, active) =
        let at = clock_place n edge there in
        let is : clock_at clocks at.0 ≡ n = ap (λ (p : ℕ × Edge). p.0) at.2 in
        let before : at.0 < here.active_place =
        ⊎_elim (λ h. h) (λ not_before. absurd (⊎_elim (λ e. let p = ap (clock_at clocks) e in omega (arith, p, here.clock_is, is, less))
        (λ behind.
        let order : clock_at clocks here.active_place ≤ clock_at clocks at.0 =
        ⊎_elim (λ h. omega (arith, h)) (λ h. omega (arith, h.0)) (are.rise here.active_place at.0 (0, Rising) behind at.1) in
        omega (arith, order, here.clock_is, is, less)) (eq-or-lt_of_le not_before)))
        (cases_lt at.0 here.active_place) in
        here.first_clock at.0 before (active_at t n edge at.0 at.2 active)

    lowest : IsLowestRace (core_netlist f) clocks (code_at s (t - 1)) (code_at s t) input clock
    lowest =
        let edge = edge_at clocks here.active_place in
        let same_input : (get_or f.inputs here.place 0 == input) ≡ true = let e = here.input_is in grind (arith, nat_tests) in
        let pair : slice_index_or clocks here.active_place (0, Rising) ≡ (clock, edge) = ap (λ (n : ℕ). let p : ℕ × Edge = (n, edge) in p) here.clock_is in
        let there : Contains clocks (clock, edge) = (here.active_place, here.active_there, at_default clocks here.active_place (0, Rising) (clock, edge) here.active_there ∙ pair) in
        let active = edge_is edge clock t ∙ subst (λ n. IsTrue (has_edge edge (value_at s.inputs s.schedule n (t - 1)) (value_at s.inputs s.schedule n t))) here.clock_is here.active in
        record {
          race = (
            record { is_input = any_has (λ m. m == input) f.inputs here.place 0 here.there same_input; no_clock = here.changed.0; changes = here.changed.1 },
            (edge, there, active),
          );
          lowest_input = lowest_input;
          lowest_clock = lowest_clock;
        }

    pub first : 0 < t → t ≤ s.schedule.stop → ((u : ℕ) → 0 < u → u < t → HasNoneHere s clocks f.inputs u)
        → (m : ℕ) × (suc m < length (moments s)) × (slice_index (moments s) (suc m) ≡ t) × IsFirstRace (core_netlist f) clocks (inputs_at s) m input clock
    first later within none =
        ⊎_elim (λ still. absurd (here.changed.1 (ap (λ v. v input) still)))
        (λ at.
        let c = each_moment s at.0 at.1 in
        let before = c.before ∙ ap (λ u. code_at s (u - 1)) at.2 in
        let now = c.now ∙ ap (code_at s) at.2 in (
          at.0,
          at.1,
          at.2,
          record {
            race = subst (λ v. IsLowestRace (core_netlist f) clocks v (inputs_at s (suc at.0)) input clock) (sym before)
                (subst (λ w. IsLowestRace (core_netlist f) clocks (code_at s (t - 1)) w input clock) (sym now) lowest);
            earliest = earlier_none at.0 at.1 at.2;
          },
        ))
        (other_times s t later within)
      where
        earlier_none : (m : ℕ) → suc m < length (moments s) → slice_index (moments s) (suc m) ≡ t → HasNoRace (core_netlist f) (inputs_at s) m
        earlier_none m there is zero le race = race
        earlier_none m there is (suc k) le race =
            let inside : suc k < length (moments s) = omega (arith, there, le) in
            let h = race_has_time s (core_netlist f) k inside race in
            let up = rise (is_moment s.schedule) s.schedule.stop (suc k) (suc m) 0 (omega (arith, le)) there in
            no_race (slice_index (moments s) (suc k)) (none (slice_index (moments s) (suc k)) h.later (omega (arith, up, is))) h.race
