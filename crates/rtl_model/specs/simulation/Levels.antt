-- Levels of combinational processes, and the bound on delta cycles.
use Rattle.std.specs.Prelude.{◌≡◌, ◌≢◌, ℕ, suc, ◌+◌, ◌<◌, ◌≤◌, Bool, true, false, ◌&&◌, List, length, slice_index_or, Option, Some, None, if◌then◌else◌}
use Rattle.std.specs.List.{list_any}
use Rattle.std.specs.Option.{is_some}
use Rattle.rtl_model.specs.basics.Chains.{Chain}
use Rattle.rtl_model.specs.simulation.Netlist.{Netlist, Source, Driver, Idle, ProcessKind, Combinational}
use Rattle.rtl_model.specs.simulation.Netlist.{Clocked, Mixed, Edge, kind_reset, sources_of, IsCombinational, IsClockedBy}
use Rattle.rtl_model.specs.simulation.Accepted.{Feeds}

-- a chain of this many combinational processes, each but the first fed by the one before, ends with q
abbrev pub ChainTo : Netlist → (q : ℕ) → (many : ℕ) → Type 0
ChainTo net q many = Chain (Feeds net) (IsCombinational net) q many

-- the level of p: the length of the longest chain that ends with it
pub record IsLevel (net : Netlist) (p level : ℕ) : Type 0 where
  pub reached : ChainTo net p level
  pub longest : (n : ℕ) → ChainTo net p n → n ≤ level

-- the level of each combinational process, and none for a clocked one; greatest is the greatest of them, 0 without any
pub record AreLevels (net : Netlist) (levels : List (Option ℕ)) (greatest : ℕ) : Type 0 where
  pub each_process : length levels ≡ length net.processes
  pub combinational : (p : ℕ) → IsCombinational net p
      → (level : ℕ) × (slice_index_or levels p None ≡ Some level) × IsLevel net p level
  pub clocked : (p clock : ℕ) (edge : Edge) → IsClockedBy net p clock edge → slice_index_or levels p None ≡ None
  pub none_above : (p level : ℕ) → slice_index_or levels p None ≡ Some level → level ≤ greatest
  pub met : greatest ≢ 0 → (p : ℕ) × (slice_index_or levels p None ≡ Some greatest)

-- ---- the bound

abbrev pub is_clocked : ProcessKind → Bool
is_clocked (Clocked clock edge reset) = true
is_clocked Combinational = false
is_clocked Mixed = false

abbrev pub has_clocked : Netlist → Bool
has_clocked net = list_any (λ p. is_clocked p.kind) net.processes

abbrev pub is_driver : Source → Bool
is_driver (Driver p place) = true
is_driver (Idle v) = false

-- some process with a reset is sensitive to a net that a process drives
abbrev pub has_late_reset : Netlist → Bool
has_late_reset net =
    list_any
    (λ p. is_some (kind_reset p.kind) && list_any (λ n. list_any is_driver (sources_of net n)) p.wakes) net.processes

-- The bound on a moment's delta cycles, where resets are inputs: the greatest level; one more where a process is
-- clocked, since registers change in the first delta cycle; and one more where a process with a reset may be resumed in
-- a delta cycle, since while its reset holds each run makes its drivers active.
abbrev pub bound : Netlist → (greatest : ℕ) → ℕ
bound net greatest = greatest + (if has_clocked net then 1 else 0) + (if has_late_reset net then 1 else 0)

-- ---- what shows levels

-- Local facts: each level is 1 or more and rises along every sensitivity, and one above 1 is one more than its from's.
pub record ShowLevels (net : Netlist) (levels from : List (Option ℕ)) : Type 0 where
  pub each : (p : ℕ) → IsCombinational net p → (below : ℕ) × (slice_index_or levels p None ≡ Some (suc below))
  pub rises : (p q a b : ℕ) → Feeds net p q → slice_index_or levels p None ≡ Some a
      → slice_index_or levels q None ≡ Some b → a < b
  pub from_below : (q below : ℕ) → IsCombinational net q → slice_index_or levels q None ≡ Some (suc (suc below))
      → (p : ℕ) × (slice_index_or from q None ≡ Some p) × Feeds net p q
      × (slice_index_or levels p None ≡ Some (suc below))

-- a numbering from 1 that rises along every sensitivity between combinational processes
pub record Rises (net : Netlist) (number : ℕ → ℕ) : Type 0 where
  pub from_one : (p : ℕ) → IsCombinational net p → 1 ≤ number p
  pub along : (p q : ℕ) → Feeds net p q → number p < number q
