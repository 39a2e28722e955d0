-- Netlists with faults, reports and races whose names and orders are known.
use Rattle.std.specs.Prelude.{◌≡◌, ℕ, Bool, true, ◌==◌, List, [], ◌∷◌, slice_index, Option, Some, None, if◌then◌else◌, false}
use Rattle.vhdl_values.specs.declared.scalar.Nine.TheVariants.{Zero, One}
use Rattle.vhdl_values.specs.declared.kinds.Logic.TheVariants.{And}
use Rattle.rtl_model.specs.basics.Valuations.{clocked_entry}
use Rattle.rtl_model.specs.basics.Lists.{IsLess}
use Rattle.rtl_model.specs.bodies.Body.{logical, plus, binary, equal, position, position_of, assign, rising, Stmts, done, step}
use Rattle.rtl_model.specs.bodies.Body.{case_of, if_of, branch, otherwise, others, alternative}
use Rattle.rtl_model.specs.bodies.Effect.{effect}
use Rattle.rtl_model.specs.bodies.Types.{nine_valued, enumeration}
use Rattle.rtl_model.specs.nets.FlatNetlist.{FlatNetlist, flat_sources}
use Rattle.rtl_model.specs.nets.CoreNetlist.{core_netlist}
use Rattle.rtl_model.specs.nets.Laws.{IsSound}
use Rattle.rtl_model.specs.simulation.Netlist.{Driver, Idle, Edge, Rising, Falling, To1, To0}
use Rattle.rtl_model.specs.simulation.Moments.{Takes}
use Rattle.rtl_model.specs.simulation.Accepted.{TwoDrivers, MixedProcess, EdgeNotSensitive, ClockAsData, MissingSensitivity}
use Rattle.rtl_model.specs.simulation.Accepted.{Latch, Loop, StoredVariable, IsFault, IsLoop}
use Rattle.rtl_model.specs.simulation.Faults.{fault_key}
use Rattle.rtl_model.specs.simulation.Levels.{bound}
use Rattle.rtl_model.specs.simulation.Report.{clock_key, IsFrom, LeadsDown}
use Rattle.rtl_model.specs.simulation.Races.{IsRace, IsLowestRace}
use Rattle.rtl_model.specs.simulation.Machine.{register_first}
use Rattle.rtl_definition_examples.specs.Bodies.{one_signal, pair, text, assigned, low, load, is_at, rising_clk, if_only, if_elsif}
use Rattle.rtl_definition_examples.specs.Circuits.{circuit, drives_one, SettlesAs}
use Rattle.rtl_definition_examples.specs.Counter.{driver, assigned_pair}
use Rattle.rtl_definition_examples.specs.Toggling.{toggling, one_edge}

-- ---- sources and loops

-- two processes drive net 0, the first at places 0 and 1, and an idle port holds 'Z' there
abbrev pub shared : FlatNetlist
shared = record {
  types = nine_valued ∷ [];
  start = 0 ∷ [];
  inputs = [];
  idle = (4 ∷ []) ∷ [];
  wide = false;
  processes =
      record { drivers = driver 0 0 ∷ driver 0 0 ∷ []; wakes = []; variables = []; body = done }
      ∷ record { drivers = driver 0 0 ∷ []; wakes = []; variables = []; body = done } ∷ [];
}

-- one driver and an idle port
abbrev pub half_idle : FlatNetlist
half_idle = record {
  types = nine_valued ∷ [];
  start = 0 ∷ [];
  inputs = [];
  idle = (4 ∷ []) ∷ [];
  wide = false;
  processes = record { drivers = driver 0 0 ∷ []; wakes = []; variables = []; body = done } ∷ [];
}

-- `x <= z; y <= x; z <= y;`
abbrev pub ring : FlatNetlist
ring = circuit [] (0 ∷ 0 ∷ 0 ∷ []) (
    drives_one 0 0 (2 ∷ []) (assigned (one_signal 2))
    ∷ drives_one 1 0 (0 ∷ []) (assigned (one_signal 0)) ∷ drives_one 2 0 (1 ∷ [])
    (assigned (one_signal 1)) ∷ [])

-- process 0 is clocked by c, net 0, and reset by r, net 1; process 1 is clocked by r
abbrev pub reset_as_clock : FlatNetlist
reset_as_clock = circuit (0 ∷ 1 ∷ 2 ∷ []) (0 ∷ 0 ∷ 0 ∷ 0 ∷ 0 ∷ []) (
    drives_one 3 0 (0 ∷ 1 ∷ []) (if_elsif (is_at 1 One) low rising_clk load)
    ∷ drives_one 4 0 (1 ∷ []) (if_only (rising 1) load) ∷ [])

pub record FaultsOfNets : Type 0 where
  pub in_order : flat_sources shared 0 ≡ Driver 0 0 ∷ Driver 0 1 ∷ Driver 1 0 ∷ Idle 4 ∷ []
  pub first_two : IsFault (core_netlist shared) (TwoDrivers 0 (Driver 0 0) (Driver 0 1))
  pub idle_last : IsFault (core_netlist half_idle) (TwoDrivers 0 (Driver 0 0) (Idle 4))
  pub loop : IsFault (core_netlist ring) (Loop (0 ∷ 2 ∷ 1 ∷ []))
  pub other_way : IsLoop (core_netlist ring) (0 ∷ 1 ∷ 2 ∷ []) → ⊥
  pub reset_is_clock : IsFault (core_netlist reset_as_clock) (ClockAsData 0 1)

-- by number, and then by net, by process and net, or by process, variable and element; stored variables last
pub record OrderOfFaults : Type 0 where
  pub by_number : IsLess (fault_key (TwoDrivers 9 (Idle 0) (Idle 0))) (fault_key (MixedProcess 0))
  pub by_net : IsLess (fault_key (TwoDrivers 0 (Idle 0) (Idle 0))) (fault_key (TwoDrivers 1 (Idle 0) (Idle 0)))
  pub by_process : IsLess (fault_key (Latch 0 3)) (fault_key (Latch 1 2))
  pub by_its_net : IsLess (fault_key (MissingSensitivity 1 2)) (fault_key (MissingSensitivity 1 3))
  pub stored_last : IsLess (fault_key (Latch 5 5)) (fault_key (StoredVariable 0 0 0))
  pub by_variable : IsLess (fault_key (StoredVariable 0 0 1)) (fault_key (StoredVariable 0 1 0))
  pub by_element : IsLess (fault_key (StoredVariable 0 1 0)) (fault_key (StoredVariable 0 1 1))

-- by net, then rising, falling, to '1', to '0'
pub record OrderOfClocks : Type 0 where
  pub edges : IsLess (clock_key (0, Rising)) (clock_key (0, Falling))
      × IsLess (clock_key (0, Falling)) (clock_key (0, To1))
      × IsLess (clock_key (0, To1)) (clock_key (0, To0))
  pub net_first : IsLess (clock_key (0, To0)) (clock_key (1, Rising))

-- ---- reports

-- `x <= a; z <= a; y <= x and z;`  the nets are a, x, z and y
abbrev pub join : FlatNetlist
join = circuit (0 ∷ []) (0 ∷ 0 ∷ 0 ∷ 0 ∷ []) (
    drives_one 1 0 (0 ∷ []) (assigned (one_signal 0)) ∷ drives_one 2 0 (0 ∷ []) (assigned (one_signal 0))
    ∷ drives_one 3 0 (1 ∷ 2 ∷ []) (assigned (binary (logical And) (one_signal 1) (one_signal 2))) ∷ [])

-- a register with a reset, which is sensitive to an idle port besides; the nets are clk, rst, the port's, and q
abbrev pub wakes_on_idle : FlatNetlist
wakes_on_idle = record {
  types = nine_valued ∷ nine_valued ∷ nine_valued ∷ nine_valued ∷ [];
  start = 0 ∷ 0 ∷ 4 ∷ 0 ∷ [];
  inputs = 0 ∷ 1 ∷ [];
  idle = [] ∷ [] ∷ (4 ∷ []) ∷ [] ∷ [];
  wide = false;
  processes = drives_one 3 0 (0 ∷ 1 ∷ 2 ∷ []) (if_elsif (is_at 1 One) low rising_clk load) ∷ [];
}

pub record ReportsOfNets : Type 0 where
  -- no register: the bound is the greatest level; and of two processes below, `from` is the lowest
  pub sound : IsSound join
  pub of_levels : bound (core_netlist join) 2 ≡ 2
  pub from_lowest : IsFrom (core_netlist join) 2 (Some 0)
  pub not_from_other : IsFrom (core_netlist join) 2 (Some 1) → ⊥
  -- at level 1 there is no from
  pub none_at_one : LeadsDown (core_netlist join) (Some 2 ∷ None ∷ Some 0 ∷ []) 0 1 → ⊥
  -- an idle port doesn't wake
  pub idle_is_sound : IsSound wakes_on_idle
  pub idle_bound : bound (core_netlist wakes_on_idle) 0 ≡ 1

-- ---- a counter with a reset: the nets are clk, rst, y(1), y(0), q(1) and q(0)

abbrev pub counts : (of_reset : Stmts) → Stmts
counts of_reset =
    if_elsif (is_at 1 One) of_reset rising_clk (assigned_pair (binary plus (pair 4 5) (text (Zero ∷ One ∷ []))))

abbrev pub resetting : (wakes : List ℕ) → (of_reset : Stmts) → FlatNetlist
resetting wakes of_reset = record {
  types = nine_valued ∷ nine_valued ∷ nine_valued ∷ nine_valued ∷ nine_valued ∷ nine_valued ∷ [];
  start = 0 ∷ 0 ∷ 0 ∷ 0 ∷ 0 ∷ 0 ∷ [];
  inputs = 0 ∷ 1 ∷ [];
  idle = [] ∷ [] ∷ [] ∷ [] ∷ [] ∷ [] ∷ [];
  wide = false;
  processes =
      record { drivers = driver 4 0 ∷ driver 5 0 ∷ []; wakes = wakes; variables = []; body = counts of_reset }
      ∷ record {
        drivers = driver 2 0 ∷ driver 3 0 ∷ [];
        wakes = 4 ∷ 5 ∷ [];
        variables = [];
        body = assigned_pair (pair 4 5);
      } ∷ [];
}

abbrev pub rc : FlatNetlist
rc = resetting (0 ∷ 1 ∷ []) (assigned_pair (text (Zero ∷ Zero ∷ [])))

-- rst is '1' at moment 0 and '0' at 1; clk rises at 2
abbrev pub released : (m n : ℕ) → ℕ
released m n = if n == 0 then (if m == 2 then 3 else 2) else (if m == 0 then 3 else 2)

pub record ResetsOfNets : Type 0 where
  pub sound : IsSound rc
  -- no net that wakes the register is driven: one delta cycle for it, and one for what follows it
  pub bound_is : bound (core_netlist rc) 1 ≡ 2
  pub held : SettlesAs (core_netlist rc) released 0 (2 ∷ 3 ∷ 2 ∷ 2 ∷ 2 ∷ 2 ∷ [])
  pub takes_two : Takes (core_netlist rc) released 0 2
  pub one_counted : SettlesAs (core_netlist rc) released 2 (3 ∷ 2 ∷ 2 ∷ 3 ∷ 2 ∷ 3 ∷ [])
  -- not sensitive to its reset, and a reset's branch that reads a signal
  pub not_sensitive : IsFault
      (core_netlist (resetting (0 ∷ []) (assigned_pair (text (Zero ∷ Zero ∷ []))))) (EdgeNotSensitive 0 1)
  pub reads_signal : IsFault (core_netlist (resetting (0 ∷ 1 ∷ []) (assigned_pair (pair 4 5)))) (MixedProcess 0)

-- ---- wrong definitions of resets

-- wrong: an edge wins over a reset
abbrev pub edge_entry : (reset_holds edge_holds : Bool) → (of_reset of_branch : Option ℕ) → Option ℕ
edge_entry reset_holds edge_holds of_reset of_branch = clocked_entry edge_holds reset_holds of_branch of_reset

-- the edge comes while the reset holds, and d is '1': q becomes '0', and would become '1'
pub record EdgeWouldWin : Type 0 where
  pub right : effect (record { before = 2 ∷ 3 ∷ 3 ∷ []; now = 3 ∷ 3 ∷ 3 ∷ []; variables = [] })
      (if_elsif (is_at 1 One) low rising_clk load) 0 ≡ Some 2
  pub wrong : edge_entry true true (Some 2) (Some 3) ≡ Some 3

-- wrong: a register's first value without its reset
pub record ResetWouldBeLeftOut : Type 0 where
  pub simulated : SettlesAs (core_netlist (toggling true)) (one_edge true) 0 (2 ∷ 3 ∷ 2 ∷ 3 ∷ [])
  pub right : register_first (core_netlist (toggling true)) 0 0 (one_edge true 0)
      (2 ∷ 3 ∷ 2 ∷ 3 ∷ []) ≡ 2
  pub wrong : slice_index (core_netlist (toggling true)).start 2 ≡ 0

-- A reset's branch that reads d has one entry where d is '1' and another where it is '0', so it has none to be given
-- once and for all.
pub record ResetWouldRead : Type 0 where
  pub of_one : effect (record { before = []; now = 0 ∷ 3 ∷ 3 ∷ []; variables = [] }) load 0 ≡ Some 3
  pub of_zero : effect (record { before = []; now = 0 ∷ 3 ∷ 2 ∷ []; variables = [] }) load 0 ≡ Some 2

-- ---- an enumeration: a machine of three states, and a process that reads the clock; the nets are clk, state, y and z

abbrev pub states : FlatNetlist
states = record {
  types = nine_valued ∷ enumeration 3 ∷ nine_valued ∷ nine_valued ∷ [];
  start = 0 ∷ 0 ∷ 0 ∷ 0 ∷ [];
  inputs = 0 ∷ [];
  idle = [] ∷ [] ∷ [] ∷ [] ∷ [];
  wide = false;
  processes =
      drives_one 1 0 (0 ∷ []) (if_only rising_clk (step (case_of (position_of 1) (
      alternative ((0 ∷ []) ∷ []) (step (assign (0 ∷ []) (position 2)) done) (
      alternative ((2 ∷ []) ∷ []) (step (assign (0 ∷ []) (position 1)) done) (
      others (step (assign (0 ∷ []) (position 0)) done))))) done))
      ∷ drives_one 2 0 (1 ∷ [])
      (step (if_of (branch (equal (position_of 1) (position 2)) (assigned (text (One ∷ []))) (otherwise low))) done)
      ∷ drives_one 3 0 (0 ∷ []) (assigned (one_signal 0)) ∷ [];
}

-- clk is '0' at moment 0 and then '1'
abbrev pub one_rise : (m n : ℕ) → ℕ
one_rise m n = if m == 0 then 2 else 3

pub record StatesOfNets : Type 0 where
  pub sound : IsSound states
  pub at_start : SettlesAs (core_netlist states) one_rise 0 (2 ∷ 0 ∷ 2 ∷ 2 ∷ [])
  pub at_edge : SettlesAs (core_netlist states) one_rise 1 (3 ∷ 2 ∷ 3 ∷ 3 ∷ [])

-- ---- races

-- two registers, of d and of e, at two clocks; the nets are c0, c1, d, e, q0 and q1
abbrev pub two_clocks : FlatNetlist
two_clocks = circuit (0 ∷ 1 ∷ 2 ∷ 3 ∷ []) (0 ∷ 0 ∷ 0 ∷ 0 ∷ 0 ∷ 0 ∷ []) (
    drives_one 4 0 (0 ∷ []) (if_only (rising 0) (assigned (one_signal 2)))
    ∷ drives_one 5 0 (1 ∷ []) (if_only (rising 1) (assigned (one_signal 3))) ∷ [])

abbrev pub clocks_of_two : List (ℕ × Edge)
clocks_of_two = (0, Rising) ∷ (1, Rising) ∷ []

-- both clocks rise, and of the others what is given
abbrev pub values_of : (of_clocks of_others : ℕ) → ℕ → ℕ
values_of of_clocks of_others n = slice_index (of_clocks ∷ of_clocks ∷ of_others ∷ of_others ∷ []) n

pub record RacesOfNets : Type 0 where
  -- two clocks that change at once are no race
  pub clocks_alone : IsRace (core_netlist two_clocks) (values_of 2 2) (values_of 3 2) → ⊥
  -- the lowest data input and the lowest clock
  pub lowest : IsLowestRace (core_netlist two_clocks) clocks_of_two (values_of 2 2) (values_of 3 3) 2 0
  pub not_highest : IsLowestRace (core_netlist two_clocks) clocks_of_two (values_of 2 2) (values_of 3 3) 3 1 → ⊥
