-- Where wrong definitions differ.
use Rattle.std.proofs.Common.{◌≡◌, ℕ, ◌+◌, zero, suc, true, false, [], get_or, Option, Some, None, refl, sym, ap, arith, Contains}
use Rattle.rtl_model.proofs.basics.Lists.{Contains-one}
use Rattle.rtl_model.specs.nets.CoreNetlist.{core_netlist}
use Rattle.rtl_model.specs.simulation.Netlist.{Edge, Falling, process, target, HasPlace, IsCombinational, IsClockedBy}
use Rattle.rtl_model.specs.simulation.Cycle.{State}
use Rattle.rtl_model.specs.simulation.Moments.{HasSettled}
use Rattle.rtl_definition_examples.specs.Rows.{sibling}
use Rattle.rtl_definition_examples.specs.SimulationMistakes.{shift, shift_edge, OrderWouldCount, ActivityWouldGoOn, BoundWouldBreak, FeedsByReading, LevelsWouldMiss, enabled, enable_drops, RegisterWouldFallBack, RegisterWouldRunAhead, falls, both_change, RaceWouldPass}
use Rattle.rtl_model.proofs.simulation.Deltas.{after}
use Rattle.rtl_definition_examples.proofs.Sound.{sound_by}
use Rattle.rtl_definition_examples.proofs.Computing.{first_cycle, next_cycle, starts_in, goes_on}
use Rattle.rtl_definition_examples.proofs.Toggling.{sound, levels_are, edge_takes_two}
use Rattle.rtl_definition_examples.proofs.Rows.{sibling_wakes}

-- what process 1 has pending
pending_1 : State → ℕ → Option ℕ
pending_1 s k = get_or (get_or s.pending 1 []) k None

pub order_would_count : OrderWouldCount
unfolding pending_1
order_would_count = record {
  both_run = (refl, refl);
  right = refl;
  wrong = λ e. let d : Some 3 ≡ Some 2 = ap (λ (s : State). pending_1 s 0) e in cc;
}

pub activity_would_go_on : ActivityWouldGoOn
activity_would_go_on = record { right = refl; wrong = refl; fit = sound true; accepted_right = refl; accepted_wrong = refl }

pub bound_would_break : BoundWouldBreak
bound_would_break = record { fit = sound false; levels = levels_are false; right = refl; takes = edge_takes_two; wrong = omega arith }

-- both processes read net 0, and neither drives it
reading_none : (p q : ℕ) → FeedsByReading (core_netlist sibling) p q → ⊥
reading_none p q f = go p q f.place f.drives f.fed f.reads
  where
    read : (q n : ℕ) → IsCombinational (core_netlist sibling) q → Contains (process (core_netlist sibling) q).reads n → n ≡ 0
    read zero n c r = sym (Contains-one 0 n r)
    read (suc zero) n c r = sym (Contains-one 0 n r)
    read (suc (suc q)) n c r = let l = c.0 in absurd (omega arith)

    driven : (p place : ℕ) → HasPlace (core_netlist sibling) p place → target (core_netlist sibling) p place ≡ 0 → ⊥
    driven zero zero h e = cc
    driven zero (suc place) h e = absurd (omega arith)
    driven (suc zero) zero h e = cc
    driven (suc zero) (suc place) h e = absurd (omega arith)
    driven (suc (suc p)) place h e = absurd (omega arith)

    go : (p q place : ℕ) → HasPlace (core_netlist sibling) p place → IsCombinational (core_netlist sibling) q → Contains (process (core_netlist sibling) q).reads (target (core_netlist sibling) p place) → ⊥
    go p q place h c r = driven p place h (read q (target (core_netlist sibling) p place) c r)

pub levels_would_miss : LevelsWouldMiss
levels_would_miss = record {
  fit = sound_by sibling (λ p. p + 1) refl;
  right = (0, (omega arith, refl), record { feeder = (omega arith, refl); fed = (omega arith, refl); place = 0; drives = omega arith; wakes = (1, omega arith, refl) });
  wrong = reading_none;
  takes = sibling_wakes.takes_two;
}

-- the enabled register, moment by moment
enabled_0 : HasSettled (core_netlist enabled) enable_drops 0 0 (first_cycle (core_netlist enabled) (enable_drops 0))
enabled_0 = starts_in (core_netlist enabled) enable_drops 0 refl

abbrev enabled_state_0 : State
enabled_state_0 = first_cycle (core_netlist enabled) (enable_drops 0)

abbrev enabled_state_1 : State
enabled_state_1 = after (core_netlist enabled) 1 (next_cycle (core_netlist enabled) (enable_drops 1) enabled_state_0)

abbrev enabled_state_2 : State
enabled_state_2 = next_cycle (core_netlist enabled) (enable_drops 2) enabled_state_1

abbrev enabled_state_3 : State
enabled_state_3 = next_cycle (core_netlist enabled) (enable_drops 3) enabled_state_2

enabled_1 : HasSettled (core_netlist enabled) enable_drops 1 1 enabled_state_1
enabled_1 = goes_on (core_netlist enabled) enable_drops 0 0 enabled_state_0 1 enabled_0 refl

enabled_2 : HasSettled (core_netlist enabled) enable_drops 2 0 enabled_state_2
enabled_2 = goes_on (core_netlist enabled) enable_drops 1 1 enabled_state_1 0 enabled_1 refl

enabled_3 : HasSettled (core_netlist enabled) enable_drops 3 0 enabled_state_3
enabled_3 = goes_on (core_netlist enabled) enable_drops 2 0 enabled_state_2 0 enabled_2 refl

pub register_would_fall_back : RegisterWouldFallBack
register_would_fall_back = record {
  fit = sound_by enabled (λ p. 1) refl;
  earlier = (0, enabled_state_2, enabled_2, refl);
  simulated = (0, enabled_state_3, enabled_3, refl);
  right = refl;
  wrong = refl;
}

-- the two registers
shift_0 : HasSettled (core_netlist shift) shift_edge 0 0 (first_cycle (core_netlist shift) (shift_edge 0))
shift_0 = starts_in (core_netlist shift) shift_edge 0 refl

shift_1 : HasSettled (core_netlist shift) shift_edge 1 1 (after (core_netlist shift) 1 (next_cycle (core_netlist shift) (shift_edge 1) (first_cycle (core_netlist shift) (shift_edge 0))))
shift_1 = goes_on (core_netlist shift) shift_edge 0 0 (first_cycle (core_netlist shift) (shift_edge 0)) 1 shift_0 refl

pub register_would_run_ahead : RegisterWouldRunAhead
register_would_run_ahead = record {
  fit = sound_by shift (λ p. 1) refl;
  earlier = (0, first_cycle (core_netlist shift) (shift_edge 0), shift_0, refl);
  simulated = (1, after (core_netlist shift) 1 (next_cycle (core_netlist shift) (shift_edge 1) (first_cycle (core_netlist shift) (shift_edge 0))), shift_1, refl);
  right = refl;
  wrong = refl;
}

-- the register at the falling edge
falling_0 : HasSettled (core_netlist falls) both_change 0 0 (first_cycle (core_netlist falls) (both_change 0))
falling_0 = starts_in (core_netlist falls) both_change 0 refl

falling_1 : HasSettled (core_netlist falls) both_change 1 1 (after (core_netlist falls) 1 (next_cycle (core_netlist falls) (both_change 1) (first_cycle (core_netlist falls) (both_change 0))))
falling_1 = goes_on (core_netlist falls) both_change 0 0 (first_cycle (core_netlist falls) (both_change 0)) 1 falling_0 refl

falling_clock : (p clock : ℕ) (edge : Edge) → IsClockedBy (core_netlist falls) p clock edge → (clock ≡ 0) × (edge ≡ Falling)
falling_clock zero clock edge (reset, h) = (cc, cc)
falling_clock (suc p) clock edge (reset, h) = cc

pub race_would_pass : RaceWouldPass
race_would_pass = record {
  fit = sound_by falls (λ p. 1) refl;
  right = record {
    process = 0;
    clock = 0;
    edge = Falling;
    clocked = (None, refl);
    active = refl;
    input = 1;
    is_input = refl;
    no_clock = λ c. let (z, e) = falling_clock c.0 1 c.1.0 c.1.1 in cc;
    changes = λ e. cc;
  };
  wrong = λ race. let (z, e) = falling_clock race.0.process race.0.clock race.0.edge race.0.clocked in let r = race.1 in cc;
  earlier = (0, first_cycle (core_netlist falls) (both_change 0), falling_0, refl);
  simulated = (1, after (core_netlist falls) 1 (next_cycle (core_netlist falls) (both_change 1) (first_cycle (core_netlist falls) (both_change 0))), falling_1, refl);
  machine = refl;
}
