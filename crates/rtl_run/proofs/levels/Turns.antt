-- One turn of a run: the machine steps to the next moment.
use Rattle.std.proofs.Common.{◌≡◌, ℕ, zero, suc, List, sym, subst, ◌∙◌, arith}
use Rattle.std.specs.Prelude.{All, Contains, IsTrue, slice_index}
use Rattle.rtl_model.specs.simulation.Netlist.{Netlist, IsInput}
use Rattle.rtl_model.specs.simulation.Accepted.{IsAccepted}
use Rattle.rtl_model.specs.simulation.Cycle.{with_changes}
use Rattle.rtl_model.specs.simulation.Machine.{IsFirst, IsStep, Solves, IsMachineRun}
use Rattle.rtl_model.specs.simulation.Races.{IsRace}
use Rattle.rtl_model.proofs.nets.Connected.{connected_is_elaborated}
use Rattle.rtl_model.proofs.simulation.Faultless.{faultless}
use Rattle.rtl_net.specs.Nets.{NetlistView, flat}
use Rattle.rtl_net.specs.Elaborated.{IsNet}
use Rattle.rtl_kernel.specs.kernel.Simulation.{changes_of, initial_inputs}
use Rattle.rtl_agenda.specs.Agenda.{Change}
use Rattle.rtl_stim.specs.Moments.{GivesNext}
use Rattle.rtl_stim.specs.Ports.{HasOwnPorts, inputs_of}
use Rattle.rtl_stim.specs.Stimuli.{StimulusView, inputs_at, initial_values}
use Rattle.rtl_net.specs.Core.{core}
use Rattle.rtl_simulation.proofs.Steps.{first_inputs, leads, of_inputs}
use Rattle.rtl_run.specs.Synchronous.{IsRaceless, IsSynchronous}
use Rattle.rtl_levels.specs.Laws.{EachMachineGoesOnAlike}

-- These changes are of inputs, no data input races with a clock, and with them a machine with these values steps to the run's next valuation.
pub record LeadsOn (run : ℕ → List ℕ) (m : ℕ) (net : NetlistView) (values : List ℕ) (changes : List Change) : Type 0 where
  pub inputs : All (λ change. Contains net.inputs change.0) changes
  pub raceless : IsRace (core net) (slice_index values) (with_changes (changes_of changes) values) → ⊥
  pub steps : (new : List ℕ) → IsStep (core net) values (with_changes (changes_of changes) values) new → new ≡ run (suc m)

-- a valuation of a run solves the equations of its moment
solves_at : (net : Netlist) (stimulus : ℕ → ℕ → ℕ) (run : ℕ → List ℕ) → IsMachineRun net stimulus run → (m : ℕ) → (registers : ℕ → ℕ) × Solves net (stimulus m) registers (run m)
solves_at net stimulus run R zero = (R.first.registers, R.first.solves)
solves_at net stimulus run R (suc m) = ((R.step m).registers, (R.step m).solves)

-- only inputs are looked at
race_alike : (net : Netlist) → IsAccepted net → (before now was is : ℕ → ℕ) → ((n : ℕ) → IsInput net n → before n ≡ was n) → ((n : ℕ) → IsInput net n → now n ≡ is n)
    → IsRace net before now → IsRace net was is
race_alike net accepted before now was is same_before same_now R =
    let clock = (faultless net accepted).clock_is_input R.process R.clock R.edge R.clocked in
    record {
      process = R.process;
      clock = R.clock;
      edge = R.edge;
      clocked = R.clocked;
      active = subst (λ (v : ℕ). IsTrue (net.edge R.edge v (is R.clock))) (same_before R.clock clock)
          (subst (λ (v : ℕ). IsTrue (net.edge R.edge (before R.clock) v)) (same_now R.clock clock) R.active);
      input = R.input;
      is_input = R.is_input;
      no_clock = R.no_clock;
      changes = λ e. R.changes (same_before R.input R.is_input ∙ e ∙ sym (same_now R.input R.is_input));
    }

module _ (alike : EachMachineGoesOnAlike) (net : NetlistView) (is_net : IsNet net) (accepted : IsAccepted (core net)) (s : StimulusView) (ports : HasOwnPorts net) (inputs : s.inputs ≡ inputs_of net)
    (bound : ℕ) (run : ℕ → List ℕ) (synchronous : IsSynchronous (core net) bound (inputs_at s) run) where
  -- the machine begins as its run does
  pub first_is : (values : List ℕ) → IsFirst (core net) (initial_inputs (flat net) (initial_values s)) values → values ≡ run 0
  first_is values first =
      (alike (core net) (connected_is_elaborated (flat net) is_net.in_range is_net.connected) accepted (inputs_at s) run synchronous.machine).first
      (initial_inputs (flat net) (initial_values s)) values (first_inputs net is_net s ports inputs) first

  module _ (m time : ℕ) (taken : List Change) (next : GivesNext s m time taken) (values : List ℕ) (same : values ≡ run m) where
    solves : (registers : ℕ → ℕ) × Solves (core net) (inputs_at s m) registers values
    solves =
        let at = solves_at (core net) (inputs_at s) run synchronous.machine m in
        (at.0, subst (λ (v : List ℕ). Solves (core net) (inputs_at s m) at.0 v) (sym same) at.1)

    lead : (n : ℕ) → IsInput (core net) n → with_changes (changes_of taken) values n ≡ inputs_at s (suc m) n
    lead = leads net is_net s ports inputs m time taken values (solves.1.each_net ∙ is_net.in_range.each_starts) solves.1.on_inputs next

    no_race : IsRaceless (core net) (inputs_at s) → IsRace (core net) (slice_index values) (with_changes (changes_of taken) values) → ⊥
    no_race raceless race =
        raceless (suc m) (suc m) (omega arith)
        (race_alike (core net) accepted (slice_index values) (with_changes (changes_of taken) values) (inputs_at s m) (inputs_at s (suc m)) solves.1.on_inputs lead race)

    -- and goes on as it does
    next_is : (new : List ℕ) → IsStep (core net) values (with_changes (changes_of taken) values) new → new ≡ run (suc m)
    next_is new step =
        (alike (core net) (connected_is_elaborated (flat net) is_net.in_range is_net.connected) accepted (inputs_at s) run synchronous.machine).step m
        (with_changes (changes_of taken) values) new lead (subst (λ (v : List ℕ). IsStep (core net) v (with_changes (changes_of taken) values) new) same step)

    -- of a machine of this netlist
    pub leads_on : IsRaceless (core net) (inputs_at s) → (machine_net : NetlistView) → machine_net ≡ net → LeadsOn run m machine_net values taken
    leads_on raceless machine_net is_same =
        subst (λ (n : NetlistView). LeadsOn run m n values taken) (sym is_same)
        (record { inputs = of_inputs net is_net s ports inputs m time taken next; raceless = no_race raceless; steps = next_is })
