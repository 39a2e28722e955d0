-- Runs in every order, delta cycles, and the moments of a simulation (IEEE 1076-2008, 14.7.5).
use Rattle.std.specs.Prelude.{◌≡◌, ℕ, suc, zero, pred, min, ◌<◌, ◌≤◌, List, [], ◌∷◌, length, slice_index, IsTrue}
use Rattle.rtl_model.specs.simulation.Netlist.{Netlist}
use Rattle.rtl_model.specs.simulation.Cycle.{State, start_state, after_update, after_inputs, after_run, is_quiet, IsToRun}

-- no process is to run
abbrev pub HasNoneToRun : State → Type 0
HasNoneToRun s = (p : ℕ) → IsToRun s p → ⊥

-- the Runs of these processes, in this order, lead from s to t, and none is left to run
abbrev pub Runs : Netlist → (order : List ℕ) → State → State → Type 0
Runs net [] s t = HasNoneToRun s × (t ≡ s)
Runs net (p ∷ order) s t = IsToRun s p × Runs net order (after_run net p s) t

-- Runs in some order lead from s to t: the standard leaves the order open (14.7.5.3)
abbrev pub HasRun : Netlist → State → State → Type 0
HasRun net s t = (order : List ℕ) × Runs net order s t

-- a delta cycle: Update, then its Runs in this order
abbrev pub Delta : Netlist → (order : List ℕ) → State → State → Type 0
Delta net order s t = HasNoneToRun s × Runs net order (after_update net s) t

-- delta cycles, one for each of these orders
abbrev pub Deltas : Netlist → (orders : List (List ℕ)) → State → State → Type 0
Deltas net [] s t = t ≡ s
Deltas net (order ∷ orders) s t = (mid : State) × Delta net order s mid × Deltas net orders mid t

-- so many delta cycles, in some orders, lead from s to t
abbrev pub HasDeltas : Netlist → ℕ → State → State → Type 0
HasDeltas net k s t = (orders : List (List ℕ)) × (length orders ≡ k) × Deltas net orders s t

-- From a state with nothing to run, k is the least number of delta cycles after which no driver is active, whatever
-- their orders.
pub record SettlesIn (net : Netlist) (s : State) (k : ℕ) : Type 0 where
  pub ready : HasNoneToRun s
  pub goes_on : (t : State) × HasDeltas net k s t
  pub settled : (t : State) → HasDeltas net k s t → IsTrue (is_quiet t)
  pub not_before : (j : ℕ) (t : State) → j < k → HasDeltas net j s t → IsTrue (is_quiet t) → ⊥

-- k delta cycles, k being the least after which no driver is active, lead from s to t
abbrev pub SettlesTo : Netlist → State → ℕ → State → Type 0
SettlesTo net s k t = SettlesIn net s k × HasDeltas net k s t

-- From a state with nothing to run, no number of delta cycles up to limit settles s, and so many lead to t.
pub record IsUnsettled (net : Netlist) (s : State) (limit : ℕ) (t : State) : Type 0 where
  pub ready : HasNoneToRun s
  pub never : (k : ℕ) → k ≤ limit → SettlesIn net s k → ⊥
  pub leads : HasDeltas net limit s t

-- A stimulus gives each input's value at each moment, the first being 0. s is a state in which the simulation may be,
-- by some orders, after the first cycle of the moment m: at 0 the run of initialization, later the cycle of the
-- new inputs.
abbrev pub Begun : Netlist → (stimulus : ℕ → ℕ → ℕ) → (m : ℕ) → State → Type 0
Begun net stimulus zero s = HasRun net (start_state net (stimulus 0)) s
Begun net stimulus (suc m) s =
    (earlier : State) × (k : ℕ) × (quiet : State) × Begun net stimulus m earlier × SettlesTo net earlier k quiet
    × HasRun net (after_inputs net (stimulus (suc m)) quiet) s

-- the moment m settles, by some orders, after k delta cycles in t
abbrev pub HasSettled : Netlist → (stimulus : ℕ → ℕ → ℕ) → (m k : ℕ) → State → Type 0
HasSettled net stimulus m k t = (s : State) × Begun net stimulus m s × SettlesTo net s k t

-- the moment m takes k delta cycles
abbrev pub Takes : Netlist → (stimulus : ℕ → ℕ → ℕ) → (m k : ℕ) → Type 0
Takes net stimulus m k = (t : State) × HasSettled net stimulus m k t

-- the greatest number of delta cycles that a moment up to the last takes
pub record IsMost (net : Netlist) (stimulus : ℕ → ℕ → ℕ) (last most : ℕ) : Type 0 where
  pub at_most : (m k : ℕ) → m ≤ last → Takes net stimulus m k → k ≤ most
  pub met : (m : ℕ) × (m ≤ last) × Takes net stimulus m most

-- ---- moments without end

-- A stimulus of values at times: moment m is at the m-th of the times, and past the last of them nothing changes.
abbrev pub at_moments : (times : List ℕ) → (value : (time net : ℕ) → ℕ) → (m net : ℕ) → ℕ
at_moments times value m net = value (slice_index times (min m (pred (length times)))) net
