-- What the laws of simulation ask of a netlist, of each flat one: of its values and bodies always, of its wiring where
-- it is connected. So whoever makes a flat netlist owes facts about its wiring alone; and then the laws hold of it as
-- they stand.
use Rattle.std.specs.Prelude.{◌≡◌, ◌≢◌, ◌↔◌, ℕ, ◌<◌, ◌≤◌, Bool, true, false, All, List, [], length, Option, Some, None, IsTrue}
use Rattle.rtl_model.specs.bodies.Effect.{effect_of}
use Rattle.rtl_model.specs.bodies.Reads.{reads, events}
use Rattle.rtl_model.specs.bodies.Stored.{stores_element}
use Rattle.rtl_model.specs.nets.FlatNetlist.{FlatNetlist, FlatProcess, IsInRange, process_at, element_starts}
use Rattle.rtl_model.specs.nets.CoreNetlist.{core_netlist, core_process}
use Rattle.rtl_model.specs.nets.Wiring.{IsConnected}
use Rattle.rtl_model.specs.bodies.Kinds.{Clocking, clocking}
use Rattle.rtl_model.specs.simulation.Netlist.{Edge, Reset, Combinational, Clocked, Mixed}
use Rattle.rtl_model.specs.simulation.Cycle.{State}
use Rattle.rtl_model.specs.simulation.Moments.{HasDeltas, Begun, SettlesIn, HasSettled}
use Rattle.rtl_model.specs.simulation.Elaborated.{HasValues, HasBodies, IsElaborated}
use Rattle.rtl_model.specs.simulation.Accepted.{IsAccepted, IsByNets}
use Rattle.rtl_model.specs.simulation.NetLevels.{IsBound}
use Rattle.rtl_model.specs.simulation.Races.{HasNoRace}
use Rattle.rtl_model.specs.simulation.Machine.{Solves, IsMachineRun}
use Rattle.rtl_model.specs.simulation.Range.{KeepsRange, SourcesKeepRange, StateInRange, AreInputs}
use Rattle.rtl_model.specs.simulation.Laws.{HasNoReset}

-- ---- of every flat netlist

abbrev pub EachHasValues : Type 0
EachHasValues = (net : FlatNetlist) → HasValues (core_netlist net)

abbrev pub EachHasBodies : Type 0
EachHasBodies = (net : FlatNetlist) → HasBodies (core_netlist net)

-- A process is combinational where no edge test and no `'event` stands in its body, clocked where the body is one of a
-- clocked process, and else mixed.
pub record KindIsOfBody (wide : Bool) (inputs : List ℕ) (p : FlatProcess) : Type 0 where
  pub combinational : (core_process wide inputs p).kind ≡ Combinational ↔ (events p.body ≡ [])
  pub clocked : ((clock : ℕ) × (edge : Edge) × (reset : Option Reset)
      × ((core_process wide inputs p).kind ≡ Clocked clock edge reset))
      ↔ ((c : Clocking) × (clocking wide inputs p.body ≡ Some c))
  pub mixed : (core_process wide inputs p).kind ≡ Mixed ↔ ((clocking wide inputs p.body ≡ None) × (events p.body ≢ []))

abbrev pub EachKindIsOfBody : Type 0
EachKindIsOfBody = (wide : Bool) (inputs : List ℕ) (p : FlatProcess) → KindIsOfBody wide inputs p

-- Where a process stores no element of a variable, its effect is the same whatever values its variables had before the
-- run.
abbrev pub EachForgets : Type 0
EachForgets =
    (wide : Bool) (inputs : List ℕ) (p : FlatProcess)
    → ((variable place : ℕ) → (core_process wide inputs p).stores variable place ≡ false)
    → (before now values : List ℕ) → length values ≡ length (element_starts p.variables)
    → effect_of (length p.drivers) p.body (record { before = before; now = now; variables = values })
    ≡ (core_process wide inputs p).effect before now

-- ---- of those in range and connected

-- All nets that a process wakes on and reads are there, and so are the elements of variables that it stores.
pub record IsThere (net : FlatNetlist) (p : FlatProcess) : Type 0 where
  pub wakes : All (λ n. n < length net.types) p.wakes
  pub reads_there : All (λ n. n < length net.types) (reads p.body)
  pub elements : (e : ℕ) → IsTrue (stores_element e p.body) → e < length (element_starts p.variables)

abbrev pub InRangeIsSafe : Type 0
InRangeIsSafe =
    (net : FlatNetlist) → IsInRange net → (p : ℕ) → p < length net.processes → IsThere net (process_at net p)

abbrev pub EachKeepsRange : Type 0
EachKeepsRange = (net : FlatNetlist) → IsInRange net → KeepsRange (core_netlist net)

abbrev pub EachIsElaborated : Type 0
EachIsElaborated = (net : FlatNetlist) → IsInRange net → IsConnected net → IsElaborated (core_netlist net)

abbrev pub EachSourceKeepsRange : Type 0
EachSourceKeepsRange = (net : FlatNetlist) → IsInRange net → IsConnected net → SourcesKeepRange (core_netlist net)

-- So whatever it settles in, accepted or not, has values of the nets' types, where the stimulus has.
abbrev pub EachStateIsInRange : Type 0
EachStateIsInRange =
    (net : FlatNetlist) → IsInRange net → IsConnected net
    → (stimulus : ℕ → ℕ → ℕ) → ((m : ℕ) → AreInputs (core_netlist net) (stimulus m))
    → (m k : ℕ) (t : State) → HasSettled (core_netlist net) stimulus m k t → StateInRange (core_netlist net) t

-- What is accepted is accepted in the wider language, and judged by processes there.
abbrev pub WideAcceptsAll : Type 0
WideAcceptsAll =
    (net : FlatNetlist) → IsInRange net → IsConnected net → net.wide ≡ false → IsAccepted (core_netlist net)
    → IsAccepted (core_netlist (record net { wide = true }))
    × (IsByNets (core_netlist (record net { wide = true })) → ⊥)

-- ---- of those that are accepted besides

-- a flat netlist as elaboration gives it, accepted by the checker
pub record IsSound (net : FlatNetlist) : Type 0 where
  pub in_range : IsInRange net
  pub connected : IsConnected net
  pub accepted : IsAccepted (core_netlist net)

-- From the state after a moment's first cycle it settles, in so many delta cycles as the bound says at most, and at the
-- start, where nothing is reset, in the greatest level at most; and without a race so far, in the machine's valuation.
pub record SettlesAsMachine (net : FlatNetlist) (greatest most : ℕ)
    (stimulus : ℕ → ℕ → ℕ) (m : ℕ) (s : State) : Type 0 where
  pub deltas : ℕ
  pub settles : SettlesIn (core_netlist net) s deltas
  pub in_bound : deltas ≤ most
  pub at_start : m ≡ 0 → HasNoReset (core_netlist net) → deltas ≤ greatest
  pub is_machine : HasNoRace (core_netlist net) stimulus m → (t : State) → HasDeltas (core_netlist net) deltas s t
      → (v : ℕ → List ℕ) → IsMachineRun (core_netlist net) stimulus v → t.now ≡ v m

-- At each moment, whatever the orders so far. There is such a state, and one run of the machine.
pub record SimulatesTheMachine (net : FlatNetlist) (stimulus : ℕ → ℕ → ℕ) : Type 0 where
  pub settles : (greatest most : ℕ) → IsBound (core_netlist net) greatest most
      → (m : ℕ) (s : State) → Begun (core_netlist net) stimulus m s → SettlesAsMachine net greatest most stimulus m s
  pub begins : (m : ℕ) → (s : State) × Begun (core_netlist net) stimulus m s
  pub one_run : (v : ℕ → List ℕ) × IsMachineRun (core_netlist net) stimulus v
      × ((w : ℕ → List ℕ) → IsMachineRun (core_netlist net) stimulus w → w ≡ v)

abbrev pub EachSimulatesTheMachine : Type 0
EachSimulatesTheMachine = (net : FlatNetlist) → IsSound net → (stimulus : ℕ → ℕ → ℕ) → SimulatesTheMachine net stimulus

-- For given inputs and registers one valuation solves, and no other.
abbrev pub EachHasOneSolution : Type 0
EachHasOneSolution =
    (net : FlatNetlist) → IsSound net → (inputs registers : ℕ → ℕ)
    → (v : List ℕ) × Solves (core_netlist net) inputs registers v
    × ((w : List ℕ) → Solves (core_netlist net) inputs registers w → w ≡ v)
