-- Values in range: each net has a value of its type.
use Rattle.std.specs.Prelude.{[], Contains, ◌≡◌, ℕ, ◌<◌, List, length, slice_index, slice_index_or, Some, None}
use Rattle.rtl_model.specs.simulation.Netlist.{Netlist, Idle, Edge, process, sources_of, target, reset_of, reset_entry, HasPlace, IsInput, IsClockedBy}
use Rattle.rtl_model.specs.simulation.Cycle.{State}

-- how many values net n's type has: nine, or the literals of an enumeration
abbrev pub limit : Netlist → ℕ → ℕ
limit net n = slice_index net.limits n

-- the valuation has a value of its type for each net
pub record IsValuation (net : Netlist) (v : List ℕ) : Type 0 where
  pub each_net : length v ≡ length net.start
  pub in_range : (n : ℕ) → n < length net.start → slice_index v n < limit net n

-- bodies assign values of their targets' types, and nets start with values of theirs
pub record KeepsRange (net : Netlist) : Type 0 where
  pub starts_in_range : IsValuation net net.start
  pub effect_in_range : (p place x : ℕ) (before now : List ℕ)
      → IsValuation net before → IsValuation net now → HasPlace net p place
      → slice_index_or ((process net p).effect before now) place None ≡ Some x → x < limit net (target net p place)
  pub branch_in_range : (p place clock x : ℕ) (edge : Edge) (now : List ℕ)
      → IsClockedBy net p clock edge → IsValuation net now → HasPlace net p place
      → slice_index_or ((process net p).acting_effect now) place None ≡ Some x → x < limit net (target net p place)
  pub reset_in_range : (p place x : ℕ) → HasPlace net p place
      → reset_entry (reset_of net p) place ≡ Some x → x < limit net (target net p place)

-- So do idle ports, drivers at the start, and resolution: where several sources meet, it stays within their net's type.
pub record SourcesKeepRange (net : Netlist) : Type 0 where
  pub drivers_start : (p place : ℕ) → HasPlace net p place
      → slice_index (process net p).starts place < limit net (target net p place)
  pub idle_in_range : (n v : ℕ) → Contains (sources_of net n) (Idle v) → v < limit net n
  pub resolution_in_range : (n : ℕ) (values : List ℕ)
      → length values ≡ length (sources_of net n) → (length values ≡ 0 → ⊥)
      → ((k : ℕ) → k < length values → slice_index values k < limit net n) → net.resolve values < limit net n

-- a state with values of the nets' types, before and now, of each driver and in each transaction
pub record StateInRange (net : Netlist) (s : State) : Type 0 where
  pub before : IsValuation net s.before
  pub now : IsValuation net s.now
  pub each_driver : (p : ℕ) → length (slice_index_or s.drivers p []) ≡ length (process net p).drives
  pub drivers : (p place : ℕ) → HasPlace net p place
      → slice_index (slice_index_or s.drivers p []) place < limit net (target net p place)
  pub transactions : (p place x : ℕ) → HasPlace net p place
      → slice_index_or (slice_index_or s.pending p []) place None ≡ Some x
      → x < limit net (target net p place)

-- inputs with values of the in ports' types
abbrev pub AreInputs : Netlist → (inputs : ℕ → ℕ) → Type 0
AreInputs net inputs = (n : ℕ) → IsInput net n → inputs n < limit net n

-- registers with values of their nets' types
abbrev pub AreRegisters : Netlist → (registers : ℕ → ℕ) → Type 0
AreRegisters net registers = (p place clock : ℕ) (edge : Edge) → IsClockedBy net p clock edge → HasPlace net p place
    → registers (target net p place) < limit net (target net p place)
