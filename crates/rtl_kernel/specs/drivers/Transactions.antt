-- The drivers of all processes, and their transactions (IEEE 1076-2008, 14.7.2).
use Rattle.std.specs.Prelude.{◌≡◌, ℕ, ◌<◌, List, [], length, map, replicate, slice_index, slice_index_or, slice_set, Option, None, IsSome}
use Rattle.rtl_drives.specs.Outcomes.{Outcome}
use Rattle.rtl_eval.specs.Runs.{Leaves}
use Rattle.rtl_net.specs.declared.process.Driver as net
use Rattle.rtl_net.specs.declared.process.Process.{Process}

-- of each process the values of its drivers, and what its last run left
pub record Transactions : Type 0 where
  pub drivers : List (List ℕ)
  pub outcomes : List Outcome

-- of each process, at each driver's place, its transaction if it has one
abbrev pub pending_of : List Outcome → List (List (Option ℕ))
pending_of outcomes = map (λ (o : Outcome). o.entries) outcomes

abbrev pub transaction_at : List (List (Option ℕ)) → (process place : ℕ) → Option ℕ
transaction_at pending p place = slice_index_or (slice_index_or pending p []) place None

-- a driver of this process is active
abbrev pub IsActive : List (List (Option ℕ)) → (process : ℕ) → Type 0
IsActive pending p = (place : ℕ) × IsSome (transaction_at pending p place)

-- the same without a transaction
abbrev pub without_entries : Outcome → Outcome
without_entries o = record o { entries = replicate (length o.entries) None }

-- the nets of the drivers of each process
abbrev pub nets_of : List net.Driver → List ℕ
nets_of ds = map (λ (d : net.Driver). d.net) ds

abbrev pub all_targets : List Process → List (List ℕ)
all_targets ps = map (λ (q : Process). nets_of q.drives.items) ps

abbrev pub targets_of : List Process → (process : ℕ) → List ℕ
targets_of ps p = slice_index_or (all_targets ps) p []

-- each driver of these processes has its entry
pub record HaveEntries (processes : List Process) (outcomes : List Outcome) : Type 0 where
  pub as_many : length processes ≡ length outcomes
  pub each_driver : (p : ℕ) → length (targets_of processes p) ≡ length (slice_index_or (pending_of outcomes) p [])

-- each driver of this process has its entry and its value
pub record IsRow (processes : List Process) (process : ℕ) (entries : List (Option ℕ)) (values : List ℕ) : Type 0 where
  pub there : process < length processes
  pub each_entry : length (targets_of processes process) ≡ length entries
  pub each_value : length values ≡ length entries

abbrev pub driver_at : List (List ℕ) → (process place : ℕ) → ℕ
driver_at rows p place = slice_index (slice_index_or rows p []) place

-- what stands at a number that no process has
abbrev pub no_outcome : Outcome
no_outcome = record { entries = []; starts = []; variables = []; room = 0; laid = []; bits = [] }

-- a run of this process has left these entries
pub record HasRunOf (entries : List (Option ℕ)) (process : ℕ) (old new : List Outcome) : Type 0 where
  pub outcome : Outcome
  pub leaves : Leaves entries (slice_index_or old process no_outcome) outcome
  pub is : new ≡ slice_set old process outcome
