-- What holds of every kernel.
use Rattle.std.specs.Prelude.{◌≡◌, ℕ, ◌<◌, ◌≤◌, Bool, List, [], length, map, slice_index_or, Option}
use Rattle.rtl_net_groups.specs.Cuts.{Cutting}
use Rattle.rtl_net_groups.specs.Groups.{Grouping}
use Rattle.rtl_model.specs.bodies.Types.{ElementType}
use Rattle.rtl_model.specs.nets.FlatNetlist.{FlatNetlist, FlatProcess, IsInRange, process_at}
use Rattle.rtl_model.specs.nets.CoreNetlist.{core_netlist}
use Rattle.rtl_model.specs.nets.Wiring.{IsConnected}
use Rattle.rtl_model.specs.simulation.Cycle.{State, IsToRun}
use Rattle.rtl_model.specs.simulation.Laws.{IsConsistent}
use Rattle.rtl_model.specs.simulation.Range.{StateInRange}
use Rattle.rtl_awaited_edges.specs.declared.awaited.ClockEdge.{ClockEdge}
use Rattle.rtl_awaited_edges.specs.Awaiting.{AwaitFirst}
use Rattle.rtl_drives.specs.Outcomes.{Outcome}
use Rattle.rtl_eval.specs.Runs.{IsOf}
use Rattle.rtl_kernel.specs.drivers.Brought.{NotedNets}
use Rattle.rtl_kernel.specs.drivers.DriverCuts.{AreDriverCuts}
use Rattle.rtl_kernel.specs.drivers.Transactions.{Transactions, IsActive, no_outcome, pending_of}
use Rattle.rtl_kernel.specs.values.TwoValues.{TwoValues}
use Rattle.rtl_net.specs.Core.{core}
use Rattle.rtl_net.specs.Nets.{NetlistView, flat}
use Rattle.rtl_net.specs.declared.process.Process.{Process}
use Rattle.rtl_kernel.specs.wakes.ToRun.{ToRun}
use Rattle.rtl_kernel.specs.wakes.Woken.{IsIndex, wakers_of}

abbrev pub state_of : TwoValues → Transactions → ToRun → State
state_of values transactions to_run = record {
  before = values.before;
  now = values.current;
  drivers = transactions.drivers;
  pending = pending_of transactions.outcomes;
  waiting = to_run.waiting;
}

-- the k-th of these runs the body of the k-th process
pub record RunBodies {E : Type 0} (process : E → FlatProcess)
    (types : E → List ElementType) (net : FlatNetlist) (bodies : List E) : Type 0 where
  pub as_many : length bodies ≡ length net.processes
  pub each : (p : ℕ) (e : E) → p < length bodies → process (slice_index_or bodies p e) ≡ process_at net p
  pub among : (p : ℕ) (e : E) → p < length bodies → types (slice_index_or bodies p e) ≡ net.types

-- each outcome is of its process, and has the room that its body's run wants
pub record HaveRoom {E : Type 0} (most : E → ℕ) (net : FlatNetlist)
    (bodies : List E) (outcomes : List Outcome) : Type 0 where
  pub as_many : length outcomes ≡ length net.processes
  pub own : (p : ℕ) → p < length outcomes → IsOf (process_at net p) (slice_index_or outcomes p no_outcome)
  pub room : (p : ℕ) (e : E) → p < length bodies
      → most (slice_index_or bodies p e) ≤ (slice_index_or outcomes p no_outcome).room

-- The state is one of this netlist: its values are in range, and its drivers' rows and its processes are the netlist's.
pub record IsSound (net : FlatNetlist) (s : State) : Type 0 where
  pub each_process : length s.waiting ≡ length net.processes
  pub each_row : length s.drivers ≡ length net.processes
  pub in_range : StateInRange (core_netlist net) s
  pub consistent : IsConsistent (core_netlist net) s
  -- what is still to run has no transaction
  pub fresh : (p : ℕ) → IsToRun s p → IsActive s.pending p → ⊥

-- what a kernel has beside its bodies
pub record Parts : Type 0 where
  pub nets : NotedNets
  pub cuts : Cutting
  pub drivers : Transactions
  pub resumed : ToRun
  pub awaited : Option ClockEdge
  pub await_it : List Bool

-- what stays as it is from step to step
pub record Standing : Type 0 where
  pub groups : Grouping
  pub cuts : Cutting
  pub awaited : Option ClockEdge
  pub await_it : List Bool

abbrev pub standing_of : Parts → Standing
standing_of k = record { groups = k.nets.values.groups; cuts = k.cuts; awaited = k.awaited; await_it = k.await_it }

-- it is of this netlist
pub record AreOfNet {E : Type 0} (process : E → FlatProcess)
    (types : E → List ElementType) (bodies : List E) (net : NetlistView)
    (s : Standing) : Type 0 where
  pub in_range : IsInRange (flat net)
  pub connected : IsConnected (flat net)
  pub run_bodies : RunBodies process types (flat net) bodies
  pub is_index : IsIndex (map (λ (p : Process). p.wakes.items) net.processes) (wakers_of s.groups)
  pub are_cuts : AreDriverCuts net s.groups s.cuts
  pub awaits : AwaitFirst (core net) s.awaited s.await_it

-- what a kernel keeps is of its netlist, and fits together
pub record IsKernel {E : Type 0} (process : E → FlatProcess)
    (types : E → List ElementType) (most : E → ℕ) (bodies : List E)
    (k : Parts) : Type 0 where
  pub of_net : AreOfNet process types bodies k.nets.net (standing_of k)
  pub room : HaveRoom most (flat k.nets.net) bodies k.drivers.outcomes
  pub sound : IsSound (flat k.nets.net) (state_of k.nets.values k.drivers k.resumed)
  -- no group is left over from an update
  pub idle : k.nets.noted ≡ []
