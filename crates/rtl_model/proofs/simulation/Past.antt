-- What happens up to a moment depends on the moments up to it alone; and past the last time nothing changes.
use Rattle.std.proofs.Common.{◌≡◌, ℕ, zero, suc, pred, min, ◌<◌, ◌≤◌, not, ◌&&◌, ◌||◌, List, length, slice_index, slice_index_or, None, sym, ap, ◌∙◌, subst, arith, ◌⊎◌, inl, inr}
use Rattle.std.proofs.lemmas.Bool.{cases_lt}
use Rattle.rtl_model.specs.basics.Valuations.{clocked_entry, entry_where}
use Rattle.rtl_model.specs.simulation.Netlist.{Netlist, Edge, IsInput, IsClockedBy, process, target, reset_of, reset_entry, resets, holds_back}
use Rattle.rtl_model.specs.simulation.Cycle.{State, with_inputs}
use Rattle.rtl_model.specs.simulation.Moments.{HasRun, Begun, at_moments}
use Rattle.rtl_model.specs.simulation.Elaborated.{IsElaborated}
use Rattle.rtl_model.specs.simulation.Races.{IsRaceAt, HasNoRace}
use Rattle.rtl_model.specs.simulation.Machine.{entry_or, Solves, register_next, IsFirst, IsStep}
use Rattle.rtl_model.specs.simulation.Range.{AreInputs}
use Rattle.rtl_model.specs.simulation.Laws.{AgreeUpTo, EachDependsOnPast, EachEndsAtLast}
use Rattle.rtl_model.proofs.simulation.Consistent.{same_inputs, takes_inputs_alone}
use Rattle.rtl_model.proofs.simulation.Faultless.{Faultless, faultless}
use Rattle.rtl_model.proofs.simulation.Levels.{numbered}
use Rattle.rtl_model.proofs.simulation.Runs.{Machine, Machine-run, run_is}

begins : (net : Netlist) (stimulus other : ℕ → ℕ → ℕ) (m : ℕ) → AgreeUpTo net stimulus other m → (s : State) → Begun net stimulus m s → Begun net other m s
begins net stimulus other zero agree s run =
    subst (λ (u : State). HasRun net u s) (takes_inputs_alone net (stimulus 0) (other 0) (λ n is. agree 0 n (omega arith) is)).starts run
begins net stimulus other (suc m) agree s (earlier, k, quiet, begun, to, run) = (
  earlier,
  k,
  quiet,
  begins net stimulus other m (λ j n l is. agree j n (omega arith) is) earlier begun,
  to,
  subst (λ (u : State). HasRun net u s) ((takes_inputs_alone net (stimulus (suc m)) (other (suc m)) (λ n is. agree (suc m) n (omega arith) is)).gives quiet) run,
)

module _ (net : Netlist) (E : IsElaborated net) (A : Faultless net) (inputs other : ℕ → ℕ) (agree : (n : ℕ) → IsInput net n → inputs n ≡ other n) where
  solves_other : (r : ℕ → ℕ) (v : List ℕ) → Solves net inputs r v → Solves net other r v
  solves_other r v s = record {
    each_net = s.each_net;
    on_inputs = λ n is. s.on_inputs n is ∙ agree n is;
    on_registers = s.on_registers;
    on_others = s.on_others;
    on_combinational = s.on_combinational;
  }

  pub first_other : (v : List ℕ) → IsFirst net inputs v → IsFirst net other v
  first_other v f = record {
    registers = f.registers;
    next = λ p place clock edge is h. f.next p place clock edge is h
        ∙ ap (λ (u : List ℕ). entry_or (entry_where (resets (reset_of net p) (slice_index u) || resets (reset_of net p) (slice_index v)) (reset_entry (reset_of net p) place)) (slice_index net.start (target net p place))) (same_inputs net inputs other net.start agree);
    solves = solves_other f.registers v f.solves;
  }

  pub step_other : (v w : List ℕ) → IsStep net v inputs w → IsStep net v other w
  step_other v w f = record {
    registers = f.registers;
    next = λ p place clock edge is h. f.next p place clock edge is h ∙ same p place clock edge is;
    solves = solves_other f.registers w f.solves;
  }
    where
      alike : with_inputs net inputs v ≡ with_inputs net other v
      alike = same_inputs net inputs other v agree

      same : (p place clock : ℕ) (edge : Edge) → IsClockedBy net p clock edge → register_next net p place clock edge v inputs w ≡ register_next net p place clock edge v other w
      same p place clock edge is = λ i. entry_or
          (clocked_entry (resets (reset_of net p) (slice_index (alike i)) || resets (reset_of net p) (slice_index w)) (net.edge edge (slice_index v clock) (agree clock (A.clock_is_input p clock edge is) i) && not (holds_back (reset_of net p) (slice_index (alike i)))) (reset_entry (reset_of net p) place) (slice_index_or ((process net p).acting_effect v) place None))
          (slice_index v (target net p place))

machine_other : (net : Netlist) (E : IsElaborated net) (A : Faultless net) (stimulus other : ℕ → ℕ → ℕ) (m : ℕ) → AgreeUpTo net stimulus other m → (v : List ℕ) → Machine net stimulus m v → Machine net other m v
machine_other net E A stimulus other zero agree v f = first_other net E A (stimulus 0) (other 0) (λ n is. agree 0 n (omega arith) is) v f
machine_other net E A stimulus other (suc m) agree v (u, before, f) = (
  u,
  machine_other net E A stimulus other m (λ j n l is. agree j n (omega arith) is) u before,
  step_other net E A (stimulus (suc m)) (other (suc m)) (λ n is. agree (suc m) n (omega arith) is) u v f,
)

race_back : (net : Netlist) (A : Faultless net) (stimulus other : ℕ → ℕ → ℕ) (last m : ℕ) → m ≤ last → AgreeUpTo net stimulus other last → IsRaceAt net other m → IsRaceAt net stimulus m
race_back net A stimulus other last zero l agree r = r
race_back net A stimulus other last (suc m) l agree r =
    let clock_is = A.clock_is_input r.process r.clock r.edge r.clocked in
    let before = agree m r.clock (omega arith) clock_is in
    let now = agree (suc m) r.clock (omega arith) clock_is in
    let b = agree m r.input (omega arith) r.is_input in
    let n = agree (suc m) r.input (omega arith) r.is_input in
    record {
      process = r.process;
      clock = r.clock;
      edge = r.edge;
      clocked = r.clocked;
      active = rw (before, now) r.active;
      input = r.input;
      is_input = r.is_input;
      no_clock = r.no_clock;
      changes = λ e. r.changes (sym b ∙ e ∙ n);
    }

pub depends_on_past : EachDependsOnPast
depends_on_past net stimulus other m agree = record {
  begins = begins net stimulus other m agree;
  settles = λ k t (s, begun, to). (s, begins net stimulus other m agree s begun, to);
  machine = λ E A v w run run'.
      Machine-run net (numbered net E A) other w run' m (v m)
      (machine_other net E (faultless net A) stimulus other m agree (v m) (run_is net (numbered net E A) stimulus v run m));
  races = λ A none j l race. none j l (race_back net (faultless net A) stimulus other m j l agree race);
}

-- ---- past the last time

module _ (net : Netlist) (times : List ℕ) (value : (time n : ℕ) → ℕ) where
  stays : (m : ℕ) → length times ≤ suc m → at_moments times value (suc m) ≡ at_moments times value m
  stays m l = ap (λ (k : ℕ). value (slice_index times k)) (omega arith)

  no_race_past : HasNoRace net (at_moments times value) (pred (length times)) → (last : ℕ) → HasNoRace net (at_moments times value) last
  no_race_past none last zero l race = race
  no_race_past none last (suc m) l race = go (cases_lt (suc m) (length times))
    where
      go : (suc m < length times) ⊎ (length times ≤ suc m) → ⊥
      go (inl k) = none (suc m) (omega arith) race
      go (inr k) = race.changes (ap (λ (f : ℕ → ℕ). f race.input) (sym (stays m k)))

  in_range_at : 1 ≤ length times → ((k : ℕ) → k < length times → AreInputs net (value (slice_index times k))) → (m : ℕ) → AreInputs net (at_moments times value m)
  in_range_at some h m = h (min m (pred (length times))) (omega arith)

pub ends_at_last : EachEndsAtLast
ends_at_last net times value = record {
  is_at = λ m l. ap (λ (k : ℕ). value (slice_index times k)) (omega arith);
  stays = stays net times value;
  no_race = no_race_past net times value;
  in_range = in_range_at net times value;
}
