-- Wrong definitions, each with a small netlist on which it differs from the right one. Where a law asks for an
-- elaborated and accepted netlist, this is one (`fit`).
use Rattle.std.specs.Prelude.{◌≡◌, ℕ, suc, zero, ◌<◌, Bool, true, false, ◌==◌, List}
use Rattle.std.specs.Prelude.{[], ◌∷◌, slice_index, slice_index_or, slice_set, map, Some, None, Contains, if◌then◌else◌}
use Rattle.std.specs.List.{list_any}
use Rattle.std.specs.Option.{is_some}
use Rattle.vhdl_values.specs.declared.scalar.Nine.TheVariants.{One}
use Rattle.rtl_model.specs.basics.Valuations.{clocked_entry}
use Rattle.rtl_model.specs.bodies.Body.{falling}
use Rattle.rtl_model.specs.nets.FlatNetlist.{FlatNetlist}
use Rattle.rtl_model.specs.nets.CoreNetlist.{core_netlist}
use Rattle.rtl_model.specs.nets.Laws.{IsSound}
use Rattle.rtl_model.specs.simulation.Netlist.{Netlist, Source, Driver, Idle, Edge, Rising, Falling}
use Rattle.rtl_model.specs.simulation.Netlist.{process, sources_of, target, reset_of, reset_entry, HasPlace, IsCombinational}
use Rattle.rtl_model.specs.simulation.Cycle.{State, IsToRun, all_driver_values, net_values, none_pending, over, after_run, after_update, start_state, is_quiet}
use Rattle.rtl_model.specs.simulation.Moments.{Takes}
use Rattle.rtl_model.specs.simulation.Levels.{AreLevels, ChainTo, bound}
use Rattle.rtl_model.specs.simulation.Races.{IsRace, IsRaceAt}
use Rattle.rtl_model.specs.simulation.Machine.{entry_or, is_reset, register_entry, register_next}
use Rattle.rtl_definition_examples.specs.Bodies.{one_signal, assigned, is_at, if_only, rising_clk}
use Rattle.rtl_definition_examples.specs.Circuits.{circuit, drives_one, SettlesAs}
use Rattle.rtl_definition_examples.specs.Toggling.{toggling, one_edge}
use Rattle.rtl_definition_examples.specs.Rows.{oscillator, sibling, a_rises, no_inputs}

-- ---- two registers in a row: q1 <= d and q2 <= q1; the nets are clk, d, q1 and q2

abbrev pub shift : FlatNetlist
shift = circuit (0 ∷ 1 ∷ []) (0 ∷ 0 ∷ 2 ∷ 2 ∷ [])
    (drives_one 2 2 (0 ∷ []) (if_only rising_clk (assigned (one_signal 1)))
    ∷ drives_one 3 2 (0 ∷ []) (if_only rising_clk (assigned (one_signal 2))) ∷ [])

-- d is '1', and clk rises at moment 1
abbrev pub shift_edge : ℕ → ℕ → ℕ
shift_edge m n = if n == 0 then (if m == 0 then 2 else 3) else 3

-- the cycle of that edge, both processes still to run
abbrev pub at_edge : State
at_edge = record {
  before = 2 ∷ 3 ∷ 2 ∷ 2 ∷ [];
  now = 3 ∷ 3 ∷ 2 ∷ 2 ∷ [];
  drivers = (2 ∷ []) ∷ (2 ∷ []) ∷ [];
  pending = (None ∷ []) ∷ (None ∷ []) ∷ [];
  waiting = true ∷ true ∷ [];
}

-- ---- a process sees another's new value in its own cycle

-- wrong: reads what the drivers will have
abbrev pub ran_seeing : Netlist → ℕ → State → State
ran_seeing net p s =
    record s {
      pending = slice_set s.pending p
          (over ((process net p).effect s.before (net_values net (all_driver_values s.pending s.drivers) s.now))
          (slice_index_or s.pending p []));
      waiting = slice_set s.waiting p false;
    }

-- two orders of the Runs then end in two states
pub record OrderWouldCount : Type 0 where
  pub both_run : IsToRun at_edge 0 × IsToRun at_edge 1
  pub right : after_run (core_netlist shift) 1 (after_run (core_netlist shift) 0 at_edge)
      ≡ after_run (core_netlist shift) 0 (after_run (core_netlist shift) 1 at_edge)
  pub wrong : ran_seeing (core_netlist shift) 1 (ran_seeing (core_netlist shift) 0 at_edge)
      ≡ ran_seeing (core_netlist shift) 0 (ran_seeing (core_netlist shift) 1 at_edge) → ⊥

-- ---- a process is resumed by activity without an event

abbrev pub is_active : State → Source → Bool
is_active s (Driver p place) = is_some (slice_index_or (slice_index_or s.pending p []) place None)
is_active s (Idle v) = false

-- wrong: resumes the processes that are sensitive to a net with an active driver
abbrev pub updated_by_activity : Netlist → State → State
updated_by_activity net s =
    let drivers' = all_driver_values s.pending s.drivers in
    record {
      before = s.now;
      now = net_values net drivers' s.now;
      drivers = drivers';
      pending = none_pending s.pending;
      waiting = map (λ p. list_any (λ n. list_any (is_active s) (sources_of net n)) p.wakes) net.processes;
    }

-- the Runs of those of these processes that wait, and delta cycles by an update and such Runs
abbrev pub run_each : Netlist → (order : List ℕ) → State → State
run_each net [] s = s
run_each net (p ∷ order) s = run_each net order (if slice_index_or s.waiting p false then after_run net p s else s)

abbrev pub cycles : (update : Netlist → State → State) → Netlist → (order : List ℕ) → ℕ → State → State
cycles update net order zero s = s
cycles update net order (suc k) s = cycles update net order k (run_each net order (update net s))

abbrev pub cycles_from_start : (update : Netlist → State → State)
    → Netlist → (order : List ℕ) → ℕ → (inputs : ℕ → ℕ) → State
cycles_from_start update net order k inputs = cycles update net order k (run_each net order (start_state net inputs))

-- The oscillator from 'U' would still be active after nine delta cycles, though y keeps its value; and so would the
-- accepted netlist that is held in reset and whose bound is three, since its two processes would resume each other.
pub record ActivityWouldGoOn : Type 0 where
  pub right : is_quiet (cycles_from_start after_update (oscillator 0) (0 ∷ []) 1 (no_inputs 0)) ≡ true
  pub wrong : is_quiet (cycles_from_start updated_by_activity (oscillator 0) (0 ∷ []) 9 (no_inputs 0)) ≡ false
  pub fit : IsSound (toggling true)
  pub accepted_right : is_quiet
      (cycles_from_start after_update (core_netlist (toggling true)) (0 ∷ 1 ∷ []) 3 (one_edge true 0)) ≡ true
  pub accepted_wrong : is_quiet
      (cycles_from_start updated_by_activity (core_netlist (toggling true)) (0 ∷ 1 ∷ []) 9 (one_edge true 0)) ≡ false

-- ---- the bound without the registers' cycle

-- wrong: the greatest level alone
abbrev pub bound_of_levels : Netlist → (greatest : ℕ) → ℕ
bound_of_levels net greatest = greatest

pub record BoundWouldBreak : Type 0 where
  pub fit : IsSound (toggling false)
  pub levels : AreLevels (core_netlist (toggling false)) (None ∷ Some 1 ∷ []) 1
  pub right : bound (core_netlist (toggling false)) 1 ≡ 2
  pub takes : Takes (core_netlist (toggling false)) (one_edge false) 1 2
  pub wrong : bound_of_levels (core_netlist (toggling false)) 1 < 2

-- ---- levels by reads in place of sensitivities

-- wrong: q reads a net that p drives
pub record FeedsByReading (net : Netlist) (p q : ℕ) : Type 0 where
  pub feeder : IsCombinational net p
  pub fed : IsCombinational net q
  pub place : ℕ
  pub drives : HasPlace net p place
  pub reads : Contains (process net q).reads (target net p place)

-- no process would be above level 1, and the bound would be 1
pub record LevelsWouldMiss : Type 0 where
  pub fit : IsSound sibling
  pub right : ChainTo (core_netlist sibling) 1 2
  pub wrong : (p q : ℕ) → FeedsByReading (core_netlist sibling) p q → ⊥
  pub takes : Takes (core_netlist sibling) a_rises 1 2

-- ---- a register that its branch leaves alone falls back to its starting value

-- if rising_edge(clk) then if en = '1' then q <= d; end if; end if;  the nets are clk, en, d and q, which starts at '0'
abbrev pub enabled : FlatNetlist
enabled =
    circuit (0 ∷ 1 ∷ 2 ∷ []) (0 ∷ 0 ∷ 0 ∷ 2 ∷ [])
    (drives_one 3 2 (0 ∷ []) (if_only rising_clk (if_only (is_at 1 One) (assigned (one_signal 2)))) ∷ [])

-- clk rises at 1 and 3, d is '1', en is '1' before 2
abbrev pub enable_drops : ℕ → ℕ → ℕ
enable_drops zero n = if n == 0 then 2 else 3
enable_drops (suc zero) n = 3
enable_drops (suc (suc zero)) n = if n == 2 then 3 else 2
enable_drops (suc (suc (suc m))) n = if n == 1 then 2 else 3

-- wrong: without an entry the starting value
abbrev pub register_or_start : Netlist → (p place clock : ℕ) → Edge
    → (v : List ℕ) → (inputs : ℕ → ℕ) → (w : List ℕ) → ℕ
register_or_start net p place clock tested v inputs w =
    entry_or (register_entry net p place clock tested v inputs w) (slice_index net.start (target net p place))

-- the simulation keeps '1', and the machine would have '0'
pub record RegisterWouldFallBack : Type 0 where
  pub fit : IsSound enabled
  pub earlier : SettlesAs (core_netlist enabled) enable_drops 2 (2 ∷ 2 ∷ 3 ∷ 3 ∷ [])
  pub simulated : SettlesAs (core_netlist enabled) enable_drops 3 (3 ∷ 2 ∷ 3 ∷ 3 ∷ [])
  pub right : register_next (core_netlist enabled) 0 0 0 Rising (2 ∷ 2 ∷ 3 ∷ 3 ∷ []) (enable_drops 3)
      (3 ∷ 2 ∷ 3 ∷ 3 ∷ []) ≡ 3
  pub wrong : register_or_start (core_netlist enabled) 0 0 0 Rising (2 ∷ 2 ∷ 3 ∷ 3 ∷ []) (enable_drops 3)
      (3 ∷ 2 ∷ 3 ∷ 3 ∷ []) ≡ 2

-- ---- a register takes its value from after the edge

-- wrong: the branch looks at the new valuation w
abbrev pub register_from_after : Netlist → (p place clock : ℕ) → Edge → (v w : List ℕ) → (inputs : ℕ → ℕ) → ℕ
register_from_after net p place clock tested v w inputs =
    entry_or (clocked_entry (is_reset net p v inputs w) (net.edge tested (slice_index v clock) (inputs clock))
    (reset_entry (reset_of net p) place)
    (slice_index_or ((process net p).acting_effect w) place None)) (slice_index v (target net p place))

-- at the edge q1 becomes '1' and q2 keeps '0'; the machine's q2 would be '1'
pub record RegisterWouldRunAhead : Type 0 where
  pub fit : IsSound shift
  pub earlier : SettlesAs (core_netlist shift) shift_edge 0 (2 ∷ 3 ∷ 2 ∷ 2 ∷ [])
  pub simulated : SettlesAs (core_netlist shift) shift_edge 1 (3 ∷ 3 ∷ 3 ∷ 2 ∷ [])
  pub right : register_next (core_netlist shift) 1 0 0 Rising (2 ∷ 3 ∷ 2 ∷ 2 ∷ []) (shift_edge 1)
      (3 ∷ 3 ∷ 3 ∷ 2 ∷ []) ≡ 2
  pub wrong : register_from_after (core_netlist shift) 1 0 0 Rising
      (2 ∷ 3 ∷ 2 ∷ 2 ∷ []) (3 ∷ 3 ∷ 3 ∷ 2 ∷ []) (shift_edge 1) ≡ 3

-- ---- races are looked for at rising edges alone

-- if falling_edge(clk) then q <= d; end if;  the nets are clk, d and q
abbrev pub falls : FlatNetlist
falls =
    circuit (0 ∷ 1 ∷ []) (0 ∷ 0 ∷ 2 ∷ []) (drives_one 2 2 (0 ∷ []) (if_only (falling 0) (assigned (one_signal 1))) ∷ [])

-- clk falls at moment 1, and d rises with it
abbrev pub both_change : ℕ → ℕ → ℕ
both_change m n = if n == 0 then (if m == 0 then 3 else 2) else (if m == 0 then 2 else 3)

-- wrong: a race at a rising edge
abbrev pub IsRisingRace : Netlist → (before now : ℕ → ℕ) → Type 0
IsRisingRace net before now = (race : IsRace net before now) × (race.edge ≡ Rising)

-- none would be found, and the simulation takes the new d where the machine takes the old one
pub record RaceWouldPass : Type 0 where
  pub fit : IsSound falls
  pub right : IsRaceAt (core_netlist falls) both_change 1
  pub wrong : IsRisingRace (core_netlist falls) (both_change 0) (both_change 1) → ⊥
  pub earlier : SettlesAs (core_netlist falls) both_change 0 (3 ∷ 2 ∷ 2 ∷ [])
  pub simulated : SettlesAs (core_netlist falls) both_change 1 (2 ∷ 3 ∷ 3 ∷ [])
  pub machine : register_next (core_netlist falls) 0 0 0 Falling (3 ∷ 2 ∷ 2 ∷ []) (both_change 1)
      (2 ∷ 3 ∷ 3 ∷ []) ≡ 2
