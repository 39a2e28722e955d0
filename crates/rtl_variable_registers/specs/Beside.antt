-- The standard's run of a netlist, whose processes keep their variables from run to run (IEEE 1076-2008, 11.3), beside
-- the run of the netlist whose variables are kept by nets.
use Rattle.std.specs.Prelude.{◌≡◌, ℕ, ◌+◌, ◌<◌, false, Contains, IsTrue, List, [], ◌∷◌, length, map, take, slice_index, slice_index_or, slice_set, Option, None, unwrap_or}
use Rattle.rtl_model.specs.bodies.Effect.{effect_of}
use Rattle.rtl_model.specs.bodies.Stored.{stores_element}
use Rattle.rtl_model.specs.bodies.Types.{KeepsTypes}
use Rattle.rtl_model.specs.bodies.Values.{Seen}
use Rattle.rtl_model.specs.bodies.Variables.{variables_after}
use Rattle.rtl_model.specs.nets.CoreNetlist.{core_netlist}
use Rattle.rtl_model.specs.nets.FlatNetlist.{FlatProcess, FlatNetlist, IsInRange, element_starts, element_types, process_at}
use Rattle.rtl_model.specs.nets.Wiring.{IsConnected}
use Rattle.rtl_model.specs.simulation.Cycle.{State, over, is_quiet, start_state, after_update, after_inputs, after_run, IsToRun}
use Rattle.rtl_model.specs.simulation.Laws.{IsConsistent}
use Rattle.rtl_model.specs.simulation.Moments.{HasNoneToRun}
use Rattle.rtl_model.specs.simulation.Netlist.{Netlist}
use Rattle.rtl_model.specs.simulation.Range.{StateInRange}
use Rattle.rtl_variable_registers.specs.Bodies.{is_register}
use Rattle.rtl_variable_registers.specs.Known.{never_set}
use Rattle.rtl_variable_registers.specs.Nets.{kept_flat, first_net}
use Rattle.rtl_variable_registers.specs.Processes.{kept_elements, rank_in}

-- ---- the standard's steps

-- a state, with what the elements of each process's variables have
pub record FullState : Type 0 where
  pub nets : State
  pub variables : List (List ℕ)

abbrev pub variables_of : FullState → (p : ℕ) → List ℕ
variables_of s p = slice_index_or s.variables p []

-- they begin with their initial values (6.4.2.4)
abbrev pub full_start : FlatNetlist → (inputs : ℕ → ℕ) → FullState
full_start net inputs = record {
  nets = start_state (core_netlist net) inputs;
  variables = map (λ (p : FlatProcess). element_starts p.variables) net.processes;
}

-- Update and Inputs leave them as they are
abbrev pub full_update : FlatNetlist → FullState → FullState
full_update net s = record s { nets = after_update (core_netlist net) s.nets }

abbrev pub full_inputs : FlatNetlist → (inputs : ℕ → ℕ) → FullState → FullState
full_inputs net inputs s = record s { nets = after_inputs (core_netlist net) inputs s.nets }

-- what a run of process p sees: its variables as the run before left them
abbrev pub seen_by : FullState → (p : ℕ) → Seen
seen_by s p = record { before = s.nets.before; now = s.nets.now; variables = variables_of s p }

abbrev pub full_run : FlatNetlist → (p : ℕ) → FullState → FullState
full_run net p s =
    let q = process_at net p in
    let row = effect_of (length q.drivers) q.body (seen_by s p) in
    record {
      nets = record s.nets {
        pending = slice_set s.nets.pending p (over row (slice_index_or s.nets.pending p []));
        waiting = slice_set s.nets.waiting p false;
      };
      variables = slice_set s.variables p (variables_after (seen_by s p) q.body);
    }

-- ---- beside each other

-- the first of each row, as many as the process has drivers
abbrev pub old_rows : {A : Type 0} → List FlatProcess → List (List A) → List (List A)
old_rows [] rows = []
old_rows (p ∷ ps) [] = []
old_rows (p ∷ ps) (row ∷ rows) = take (length p.drivers) row ∷ old_rows ps rows

-- of a state of the netlist whose variables are kept, what is of the nets and drivers that there were
abbrev pub old_part : FlatNetlist → State → State
old_part net t = record {
  before = take (length net.types) t.before;
  now = take (length net.types) t.now;
  drivers = old_rows net.processes t.drivers;
  pending = old_rows net.processes t.pending;
  waiting = t.waiting;
}

-- the driver's value at a place of process p, and its transaction
abbrev pub driver_at : State → (p place : ℕ) → ℕ
driver_at t p place = slice_index (slice_index_or t.drivers p []) place

abbrev pub transaction_at : State → (p place : ℕ) → Option ℕ
transaction_at t p place = slice_index_or (slice_index_or t.pending p []) place None

-- The element of this rank among those of process p that are kept: its variable has what its driver is to have, its
-- net what the driver has. Where the process is to run, the driver has no transaction.
pub record IsKeptBy (net : FlatNetlist) (s : FullState) (t : State) (p e rank : ℕ) : Type 0 where
  pub variable : unwrap_or (transaction_at t p (length (process_at net p).drivers + rank))
      (driver_at t p (length (process_at net p).drivers + rank)) ≡ slice_index (variables_of s p) e
  pub net_is : slice_index t.now (first_net net p + rank) ≡ driver_at t p (length (process_at net p).drivers + rank)
  pub ready : IsToRun t p → transaction_at t p (length (process_at net p).drivers + rank) ≡ None

-- A process's variables have as many elements, of their types; what no statement sets has its initial value.
pub record HasVariables (p : FlatProcess) (values : List ℕ) : Type 0 where
  pub many : length values ≡ length (element_starts p.variables)
  pub typed : KeepsTypes (element_types p.variables) values
  pub unset : (e : ℕ) → IsTrue (never_set p.body e) → slice_index values e ≡ slice_index (element_starts p.variables) e

-- s is a state of the standard's run of the netlist, t one of the netlist whose variables are kept
pub record IsBeside (net : FlatNetlist) (s : FullState) (t : State) : Type 0 where
  pub nets : s.nets ≡ old_part net t
  pub rows : length t.pending ≡ length net.processes
  pub many : length s.variables ≡ length net.processes
  pub variables : (p : ℕ) → p < length net.processes → HasVariables (process_at net p) (variables_of s p)
  pub elements : (p e : ℕ) → p < length net.processes → Contains (kept_elements (process_at net p)) e
      → IsKeptBy net s t p e (rank_in (kept_elements (process_at net p)) e)

-- ---- the law

-- what is no register stores no variable (else it has a fault)
abbrev pub OthersStoreNone : FlatNetlist → Type 0
OthersStoreNone net =
    (p e : ℕ) → is_register (process_at net p).body ≡ false → stores_element e (process_at net p).body ≡ false

-- The runs begin beside each other, and each step keeps them so. Where the one with nets is quiet, so is the other.
-- Where that is, the one with nets is quiet after one Update more, which wakes no process.
pub record StaysBeside (net : FlatNetlist) (kept : Netlist) : Type 0 where
  pub starts : (inputs : ℕ → ℕ) → IsBeside net (full_start net inputs) (start_state kept inputs)
  pub updates : (s : FullState) (t : State) → StateInRange kept t → IsBeside net s t
      → IsBeside net (full_update net s) (after_update kept t)
  pub gives : (inputs : ℕ → ℕ) (s : FullState) (t : State) → IsTrue (is_quiet t) → IsBeside net s t
      → IsBeside net (full_inputs net inputs s) (after_inputs kept inputs t)
  pub runs : (p : ℕ) (s : FullState) (t : State) → StateInRange kept t → IsToRun t p → IsBeside net s t
      → IsBeside net (full_run net p s) (after_run kept p t)
  pub quiet : (s : FullState) (t : State) → IsBeside net s t → IsTrue (is_quiet t) → IsTrue (is_quiet s.nets)
  pub late : (s : FullState) (t : State) → IsConsistent kept t → IsBeside net s t → IsTrue (is_quiet s.nets)
      → IsTrue (is_quiet (after_update kept t)) × HasNoneToRun (after_update kept t)

abbrev pub EachStaysBeside : Type 0
EachStaysBeside =
    (net : FlatNetlist) → IsInRange net → IsConnected net → OthersStoreNone net
    → StaysBeside net (core_netlist (kept_flat net))
