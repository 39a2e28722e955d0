-- In the middle of an update: what is left to do gives what the whole gives.
use Rattle.std.specs.Prelude.{◌≡◌, ℕ, ◌≤◌, ◌<◌, List, [], length, map, slice_index, slice_index_or, Option, Some, None}
use Rattle.rtl_model.specs.simulation.Cycle.{driver_values}
use Rattle.rtl_kernel.specs.drivers.Brought.{NotedNets, Brings, BringsAll}
use Rattle.rtl_kernel.specs.drivers.Transactions.{Transactions, IsActive, pending_of, without_entries}

-- the driver at this place has its transaction's value, if it has a transaction
abbrev pub IsTaken : (entries : List (Option ℕ)) → (values : List ℕ) → (place : ℕ) → Type 0
IsTaken entries values place = (v : ℕ) → slice_index_or entries place None ≡ Some v → slice_index values place ≡ v

-- some drivers of one process have taken their transactions' values, all others are as they were
pub record TakesEntries (targets : List ℕ) (entries : List (Option ℕ)) (old : List ℕ) (old_nets : NotedNets)
    (new : List ℕ) (new_nets : NotedNets) : Type 0 where
  pub as_many : length new ≡ length old
  pub unassigned : (q : ℕ) → slice_index_or entries q None ≡ None → slice_index new q ≡ slice_index old q
  pub stay : (q : ℕ) → IsTaken entries old q → IsTaken entries new q
  pub brings : Brings targets old new old_nets new_nets

-- of the processes of this list, those before the index are done
pub record IsUpdating (active : List ℕ) (index : ℕ) (old : Transactions) (old_nets : NotedNets) (new : Transactions)
    (new_nets : NotedNets) : Type 0 where
  pub each_outcome : length new.outcomes ≡ length old.outcomes
  pub each_row : length new.drivers ≡ length old.drivers
  pub outcomes_stay : map without_entries new.outcomes ≡ map without_entries old.outcomes
  pub each_entry : (p : ℕ)
      → length (slice_index_or (pending_of new.outcomes) p []) ≡ length (slice_index_or (pending_of old.outcomes) p [])
  pub each_value : (p : ℕ) → length (slice_index_or new.drivers p []) ≡ length (slice_index_or old.drivers p [])
  pub driven_stay : (p : ℕ)
      → driver_values (slice_index_or (pending_of new.outcomes) p []) (slice_index_or new.drivers p [])
      ≡ driver_values (slice_index_or (pending_of old.outcomes) p []) (slice_index_or old.drivers p [])
  pub left : (p : ℕ) → IsActive (pending_of new.outcomes) p
      → (k : ℕ) × (index ≤ k) × (k < length active) × (slice_index active k ≡ p)
  pub brings : BringsAll old_nets.net.processes old.drivers new.drivers old_nets new_nets
