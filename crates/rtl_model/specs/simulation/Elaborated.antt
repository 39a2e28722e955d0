-- What holds of every netlist that was elaborated: of its wiring, of the nine values' resolution and edges, and of
-- its bodies.
use Rattle.std.specs.Prelude.{◌≡◌, ◌⊎◌, ℕ, ◌<◌, false, not, ◌&&◌, List, [], ◌∷◌, length, slice_index, slice_index_or, map, Some, None, IsSome, IsTrue, Contains}
use Rattle.rtl_model.specs.basics.Valuations.{AgreeOn, clocked_entry}
use Rattle.rtl_model.specs.simulation.Netlist.{Netlist, Source, Driver, Reset, Copy, Edge, process, sources_of, target}
use Rattle.rtl_model.specs.simulation.Netlist.{HasPlace, HasReset, IsInput, IsCombinational, IsClockedBy, reset_of, reset_entry, resets, holds_back}
use Rattle.rtl_model.specs.simulation.Cycle.{source_value, starting_drivers}

-- drivers, sources and starting values fit together (14.7.2, 14.7.3.2)
pub record IsWired (net : Netlist) : Type 0 where
  pub targets_are_nets : (p place : ℕ) → HasPlace net p place → target net p place < length net.start
  pub inputs_are_nets : (n : ℕ) → IsInput net n → n < length net.start
  -- nothing inside the top drives its in ports
  pub inputs_have_no_source : (n : ℕ) → IsInput net n → sources_of net n ≡ []
  pub sources_are_drivers : (n p place : ℕ) → Contains (sources_of net n) (Driver p place)
      → HasPlace net p place × (target net p place ≡ n)
  pub drivers_are_sources : (p place : ℕ) → HasPlace net p place
      → Contains (sources_of net (target net p place)) (Driver p place)
  pub each_driver_starts : (p : ℕ) → length (process net p).starts ≡ length (process net p).drives
  -- a net with sources starts with their resolution (14.7.5.2)
  pub nets_start : (n : ℕ) (source : Source) → Contains (sources_of net n) source → slice_index net.start n
      ≡ net.resolve (map (source_value (starting_drivers net)) (sources_of net n))

-- resolution leaves one value as it is (14.7.3.2), and an edge is an event
pub record HasValues (net : Netlist) : Type 0 where
  pub one_resolves : (v : ℕ) → net.resolve (v ∷ []) ≡ v
  pub edges_differ : (edge : Edge) (v : ℕ) → net.edge edge v v ≡ false

-- a net is the target of this place of process p and of no other
abbrev pub IsOnlyPlace : Netlist → ℕ → ℕ → Type 0
IsOnlyPlace net p place = (other : ℕ) → HasPlace net p other → target net p other ≡ target net p place → other ≡ place

-- what bodies do
pub record HasBodies (net : Netlist) : Type 0 where
  -- a combinational body has an entry for what it assigns on every path,
  pub assigned : (p place : ℕ) (before now : List ℕ) → IsCombinational net p
      → HasPlace net p place → IsOnlyPlace net p place
      → IsTrue ((process net p).assigns (target net p place))
      → IsSome (slice_index_or ((process net p).effect before now) place None)
  -- and the entry for a driver depends on what the driver looks at, which the body reads, and on nothing else;
  pub entry_looks : (p place : ℕ) (before now before' now' : List ℕ) → IsCombinational net p
      → HasPlace net p place → AgreeOn ((process net p).looks place) now now'
      → slice_index_or ((process net p).effect before now) place None
      ≡ slice_index_or ((process net p).effect before' now') place None
  pub looks_are_read : (p place n : ℕ) → Contains ((process net p).looks place) n → Contains (process net p).reads n
  -- the branch under an edge looks at what it reads and at nothing else;
  pub branch_reads : (p clock : ℕ) (edge : Edge) (v w : List ℕ)
      → IsClockedBy net p clock edge → AgreeOn (process net p).acting_reads v w
      → (process net p).acting_effect v ≡ (process net p).acting_effect w
  -- a clocked body does what its reset's branch does where its reset holds, else at its edge, unless the reset gates
  -- it, what its branch does, and else nothing;
  pub clocked_acts : (p clock place : ℕ) (edge : Edge) (before now : List ℕ) → IsClockedBy net p clock edge
      → slice_index_or ((process net p).effect before now) place None
      ≡ clocked_entry (resets (reset_of net p) (slice_index now))
      (net.edge edge (slice_index before clock) (slice_index now clock)
      && not (holds_back (reset_of net p) (slice_index now)))
      (reset_entry (reset_of net p) place) (slice_index_or ((process net p).acting_effect now) place None)
  -- a body with a test of another net in a reset's place is mixed, and so is one with a reset behind the edge, unless
  -- the reading is wide;
  pub resets_are_narrow : (p : ℕ) (reset : Reset) → HasReset net p reset
      → (IsInput net reset.net × IsTrue reset.gates) ⊎ IsTrue net.wide
  -- and a copy has its net's value, passed on
  pub copies_pass : (p place : ℕ) (copy : Copy) (before now : List ℕ) → HasPlace net p place
      → (process net p).copies place ≡ Some copy
      → slice_index_or ((process net p).effect before now) place None ≡ Some (copy.passed (slice_index now copy.net))

pub record IsElaborated (net : Netlist) : Type 0 where
  pub wiring : IsWired net
  pub values : HasValues net
  pub bodies : HasBodies net
