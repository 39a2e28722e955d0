-- The standard's simulation of a netlist, whose processes keep their variables (IEEE 1076-2008, 11.3, 14.7.5), moment
-- by moment, and that the netlist whose variables are kept by nets settles in what it settles in.
use Rattle.std.specs.Prelude.{◌≡◌, ℕ, zero, suc, ◌+◌, ◌<◌, ◌⊎◌, false, Contains, IsTrue, List, [], ◌∷◌, length, take, slice_index}
use Rattle.rtl_model.specs.nets.CoreNetlist.{core_netlist}
use Rattle.rtl_model.specs.nets.FlatNetlist.{FlatNetlist, IsInRange, process_at}
use Rattle.rtl_model.specs.nets.Wiring.{IsConnected}
use Rattle.rtl_model.specs.simulation.Cycle.{State, is_quiet, IsToRun}
use Rattle.rtl_model.specs.simulation.Moments.{HasNoneToRun, HasSettled}
use Rattle.rtl_model.specs.simulation.Range.{AreInputs}
use Rattle.rtl_variable_registers.specs.Beside.{FullState, variables_of, full_start, full_update, full_inputs, full_run, OthersStoreNone}
use Rattle.rtl_variable_registers.specs.Nets.{kept_flat, first_net}
use Rattle.rtl_variable_registers.specs.Processes.{kept_elements, rank_in}

-- the Runs of these processes, in this order, lead from s to t, and none is left to run
abbrev pub FullRuns : FlatNetlist → (order : List ℕ) → FullState → FullState → Type 0
FullRuns net [] s t = HasNoneToRun s.nets × (t ≡ s)
FullRuns net (p ∷ order) s t = IsToRun s.nets p × FullRuns net order (full_run net p s) t

-- delta cycles lead from s to t, one for each of these orders, and go on as long as there is a transaction
abbrev pub FullDeltas : FlatNetlist → (orders : List (List ℕ)) → FullState → FullState → Type 0
FullDeltas net [] s t = IsTrue (is_quiet s.nets) × (t ≡ s)
FullDeltas net (order ∷ orders) s t =
    (is_quiet s.nets ≡ false)
    × ((mid : FullState) × FullRuns net order (full_update net s) mid × FullDeltas net orders mid t)

-- s is a state in which the simulation may be, by some orders, after the first cycle of the moment m
abbrev pub FullBegun : FlatNetlist → (stimulus : ℕ → ℕ → ℕ) → (m : ℕ) → FullState → Type 0
FullBegun net stimulus zero s = (order : List ℕ) × FullRuns net order (full_start net (stimulus 0)) s
FullBegun net stimulus (suc m) s =
    (earlier : FullState) × (orders : List (List ℕ)) × (quiet : FullState)
    × FullBegun net stimulus m earlier × FullDeltas net orders earlier quiet
    × ((order : List ℕ) × FullRuns net order (full_inputs net (stimulus (suc m)) quiet) s)

-- the moment m settles so, by some orders, in t
abbrev pub FullSettled : FlatNetlist → (stimulus : ℕ → ℕ → ℕ) → (m : ℕ) → (orders : List (List ℕ)) → FullState → Type 0
FullSettled net stimulus m orders t = (s : FullState) × FullBegun net stimulus m s × FullDeltas net orders s t

-- The standard's simulation may settle, at the moment m, where the one with nets settles in t after k delta cycles: all
-- nets that there were have the same values, and the net of each kept element has the element's; and it takes as many
-- delta cycles, or one fewer.
pub record SettlesAlike (net : FlatNetlist) (stimulus : ℕ → ℕ → ℕ) (m k : ℕ) (t : State) : Type 0 where
  pub state : FullState
  pub orders : List (List ℕ)
  pub settles : FullSettled net stimulus m orders state
  pub deltas : (k ≡ length orders) ⊎ (k ≡ suc (length orders))
  pub now : state.nets.now ≡ take (length net.types) t.now
  pub elements : (p e : ℕ) → p < length net.processes → Contains (kept_elements (process_at net p)) e
      → slice_index t.now (first_net net p + rank_in (kept_elements (process_at net p)) e)
      ≡ slice_index (variables_of state p) e

abbrev pub EachSettlesAlike : Type 0
EachSettlesAlike =
    (net : FlatNetlist) → IsInRange net → IsConnected net → OthersStoreNone net
    → (stimulus : ℕ → ℕ → ℕ) → ((m : ℕ) → AreInputs (core_netlist (kept_flat net)) (stimulus m))
    → (m k : ℕ) (t : State) → HasSettled (core_netlist (kept_flat net)) stimulus m k t
    → SettlesAlike net stimulus m k t
