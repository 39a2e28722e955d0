-- The settling theorem: an accepted netlist is, under a stimulus without a race, a synchronous machine.
use Rattle.std.specs.Prelude.{◌≡◌, ℕ, ◌≤◌, List, length}
use Rattle.rtl_model.specs.simulation.Netlist.{Netlist, sources_of}
use Rattle.rtl_model.specs.simulation.Cycle.{State}
use Rattle.rtl_model.specs.simulation.Moments.{Begun, SettlesIn, HasSettled}
use Rattle.rtl_model.specs.simulation.Accepted.{IsAccepted}
use Rattle.rtl_model.specs.simulation.Laws.{HasNoReset}
use Rattle.rtl_model.specs.simulation.NetLevels.{IsBound}
use Rattle.rtl_model.specs.simulation.Races.{HasNoRace}
use Rattle.rtl_model.specs.simulation.Machine.{Solves, IsMachineRun}
use Rattle.rtl_net.specs.Nets.{NetlistView}
use Rattle.rtl_net.specs.Elaborated.{IsNet}
use Rattle.rtl_net.specs.Core.{core}

-- The checker says yes with this bound: the netlist has no fault, and the bound is that of its greatest level.
pub record SaysYes (net : Netlist) (bound : ℕ) : Type 0 where
  pub accepted : IsAccepted net
  pub greatest : ℕ
  pub is_bound : IsBound net greatest bound

-- no data input changes at an active clock edge, at any moment
abbrev pub IsRaceless : Netlist → (stimulus : ℕ → ℕ → ℕ) → Type 0
IsRaceless net stimulus = (last : ℕ) → HasNoRace net stimulus last

-- for these inputs and registers one valuation solves the netlist's equations, and no other
abbrev pub HasOneSolution : Netlist → (inputs registers : ℕ → ℕ) → Type 0
HasOneSolution net inputs registers =
    (v : List ℕ) × Solves net inputs registers v × ((w : List ℕ) → Solves net inputs registers w → w ≡ v)

-- Under this stimulus the event-driven simulation of the netlist is the synchronous machine with this run, whose m-th
-- valuation is the one at moment m. Orders of processes are all those that the standard leaves open
-- (IEEE 1076-2008, 14.7.5.3): the simulation may be in a state by any of them.
pub record IsSynchronous (net : Netlist) (bound : ℕ) (stimulus : ℕ → ℕ → ℕ) (run : ℕ → List ℕ) : Type 0 where
  -- no net has two drivers, nor a driver and an idle port
  pub one_source : (n : ℕ) → length (sources_of net n) ≤ 1
  -- each moment comes, and whatever the orders so far, it settles within the bound
  pub comes : (m : ℕ) → (begun : State) × Begun net stimulus m begun
  pub settles : (m : ℕ) (begun : State) → Begun net stimulus m begun → (deltas : ℕ) × SettlesIn net begun deltas
      × (deltas ≤ bound)
  -- the first within the greatest level, where no process has a reset
  pub starts : (greatest : ℕ) → IsBound net greatest bound → HasNoReset net
      → (begun : State) → Begun net stimulus 0 begun → (deltas : ℕ) × SettlesIn net begun deltas × (deltas ≤ greatest)
  -- what it settles in is the machine's valuation,
  pub is_machine : (m deltas : ℕ) (settled : State) → HasSettled net stimulus m deltas settled → settled.now ≡ run m
  -- in which each register is computed from the settled values before the edge,
  pub machine : IsMachineRun net stimulus run
  -- and all combinational nets are the solution of their equations, of which there is one for any inputs and registers.
  pub one_solution : (inputs registers : ℕ → ℕ) → HasOneSolution net inputs registers

-- Where the checker says yes with a bound, then for every stimulus without a race the simulation is a synchronous
-- machine.
abbrev pub EachAcceptedIsSynchronous : Type 0
EachAcceptedIsSynchronous =
    (net : NetlistView) (bound : ℕ) (stimulus : ℕ → ℕ → ℕ) → IsNet net → SaysYes (core net) bound
    → IsRaceless (core net) stimulus
    → (run : ℕ → List ℕ) × IsSynchronous (core net) bound stimulus run
