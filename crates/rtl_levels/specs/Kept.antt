-- What holds of every machine, and of its parts.
use Rattle.std.specs.Prelude.{◌≡◌, ℕ, ◌<◌, ◌⊎◌, All, Bool, false, List, Option, Some, None, IsTrue, length, map, slice_index, slice_index_or}
use Rattle.vhdl_values.specs.declared.scalar.Nine.{Nine}
use Rattle.rtl_model.specs.bodies.Types.{ElementType}
use Rattle.rtl_model.specs.nets.FlatNetlist.{FlatProcess, IsInRange, process_at}
use Rattle.rtl_model.specs.nets.Wiring.{IsConnected}
use Rattle.rtl_model.specs.simulation.Netlist.{Netlist, Process, HasPlace, IsInput, target}
use Rattle.rtl_model.specs.simulation.Accepted.{IsAccepted}
use Rattle.rtl_model.specs.simulation.Elaborated.{IsElaborated}
use Rattle.rtl_model.specs.simulation.Machine.{Solves}
use Rattle.rtl_model.specs.simulation.Range.{IsValuation, limit}
use Rattle.rtl_awaited_edges.specs.Awaiting.{AreEdges, AreLeaders}
use Rattle.rtl_drives.specs.Outcomes.{Outcome}
use Rattle.rtl_eval.specs.Runs.{IsOf}
use Rattle.rtl_kernel.specs.kernel.Kept.{RunBodies, HaveRoom}
use Rattle.rtl_kernel.specs.kernel.Simulation.{changes_of}
use Rattle.rtl_kernel.specs.drivers.Transactions.{no_outcome}
use Rattle.rtl_kernel.specs.wakes.Woken.{wakers_of}
use Rattle.rtl_net_groups.specs.Cuts.{AreCutsOf}
use Rattle.rtl_net.specs.Core.{core}
use Rattle.rtl_net.specs.Nets.{NetlistView, flat}
use Rattle.rtl_levels.specs.declared.schedule.Schedule.{Schedule}
use Rattle.rtl_levels.specs.declared.state.State.{State}
use Rattle.rtl_levels.specs.Marks.{AllAreReaders, HasNoMark, IsGiven}
use Rattle.rtl_levels.specs.Running.{IsDerivedAt, IsSettledAt, KeepsResets}
use Rattle.rtl_levels.specs.Scheduled.{IsSchedule, whole_first}
use Rattle.rtl_levels.specs.Visits.{AreNetLevels, IsToCome}

-- Each process of a netlist may be run: the k-th body is that of the k-th process, and the k-th run
-- has its room.
pub record MayRun {E : Type 0} (process : E → FlatProcess) (types : E → List ElementType) (most : E → ℕ)
    (net : NetlistView) (bodies : List E) (runs : List Outcome) : Type 0 where
  pub in_range : IsInRange (flat net)
  pub connected : IsConnected (flat net)
  pub run_bodies : RunBodies process types (flat net) bodies
  pub room : HaveRoom most (flat net) bodies runs

-- Who is run when, in this accepted netlist: each process's drivers are cut over the nets that mark
-- the same visits.
pub record IsPlanned (net : Netlist) (s : Schedule) : Type 0 where
  pub elaborated : IsElaborated net
  pub accepted : IsAccepted net
  -- the levels of nets by which it was made
  pub nets : List ℕ
  pub nets_are : AreNetLevels net nets
  pub schedule : IsSchedule net nets s.visits.items (wakers_of s.readers) (wakers_of s.clocked)
  pub each_reader : length (wakers_of s.readers) ≡ length net.start
  pub each_clocked : length (wakers_of s.clocked) ≡ length net.start
  pub cuts : AreCutsOf s.readers.of_net (map (λ (p : Process). p.drives) net.processes) s.cuts
  pub wholes : s.wholes.items ≡ map whole_first s.cuts.cuts
  pub edges : AreEdges net s.edges.items
  pub leaders : AreLeaders s.edges.items s.leaders.items

-- the values are the nets', each rank has a mark, and each net a chunk
pub record IsStateOf (net : Netlist) (schedule : Schedule) (s : State) : Type 0 where
  pub in_range : IsValuation net s.values.items
  pub each_rank : length s.dirty.items ≡ length schedule.visits.items
  pub each_chunk : s.touched.nets ≡ length s.values.items

-- By whatever levels it was made: the net of each driver that may change it behind others has settled,
-- or a visit of its process, at the net's level or below it, is marked and still to come.
abbrev pub AreSettledOrToCome : Netlist → Schedule → (from : ℕ) → State → Type 0
AreSettledOrToCome net schedule from s =
    (P : IsPlanned net schedule) (p place : ℕ) → IsDerivedAt net p place → HasPlace net p place
    → IsSettledAt net s.values.items p place
    ⊎ IsToCome schedule.visits.items s.dirty.items from p (slice_index P.nets (target net p place))

-- each marked process is sensitive to a net that one of these changes gives a value
pub record AreSensitive (clocked : List (List ℕ)) (changes : List (ℕ × Nine)) (marked : List Bool) : Type 0 where
  pub there : All (λ (c : ℕ × Nine). c.0 < length clocked) changes
  pub readers : AllAreReaders clocked (IsGiven (changes_of changes)) marked

-- the entries that the run of this process has left
abbrev pub entries_of : List Outcome → (process : ℕ) → List (Option ℕ)
entries_of runs p = (slice_index_or runs p no_outcome).entries

-- what the marked processes' runs have left may be taken over
pub record AreRunsOf (net : NetlistView) (marked : List Bool) (runs : List Outcome) : Type 0 where
  pub each_process : length marked ≡ length (core net).processes
  pub each_run : length runs ≡ length net.processes
  pub own : (p : ℕ) → p < length runs → IsOf (process_at (flat net) p) (slice_index_or runs p no_outcome)
  pub in_range : (p place x : ℕ) → IsTrue (slice_index_or marked p false) → HasPlace (core net) p place
      → slice_index_or (entries_of runs p) place None ≡ Some x → x < limit (core net) (target (core net) p place)

-- the values have settled, for some inputs and registers
pub record IsAtRest (net : Netlist) (before values : List ℕ) : Type 0 where
  pub inputs : ℕ → ℕ
  pub registers : ℕ → ℕ
  pub solves : Solves net inputs registers values
  pub resets : KeepsResets net values
  pub before_in_range : IsValuation net before
  -- no input has an event
  pub no_event : (n : ℕ) → IsInput net n → slice_index before n ≡ slice_index values n

-- Between the steps of a machine its values have settled, and no process is to run or has just run.
pub record IsMachine (net : Netlist) (schedule : Schedule) (before : List ℕ) (state : State) (woken ran : List Bool)
    : Type 0 where
  pub planned : IsPlanned net schedule
  pub state_is : IsStateOf net schedule state
  pub at_rest : IsAtRest net before state.values.items
  pub each_process : length woken ≡ length net.processes
  pub each_ran : length ran ≡ length woken
  pub none_dirty : HasNoMark state.dirty.items
  pub none_woken : HasNoMark woken
  pub none_ran : HasNoMark ran
