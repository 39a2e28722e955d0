-- The laws of running processes one by one.
use Rattle.std.specs.Prelude.{◌≡◌, ℕ, suc, false, List, length, None, slice_index, slice_index_or}
use Rattle.rtl_model.specs.simulation.Netlist.{Netlist, Edge, Reset, process, target, HasPlace, HasReset, IsClockedBy, IsInput}
use Rattle.rtl_model.specs.simulation.Cycle.{with_inputs}
use Rattle.rtl_model.specs.simulation.Elaborated.{IsElaborated}
use Rattle.rtl_model.specs.simulation.Accepted.{IsAccepted}
use Rattle.rtl_model.specs.simulation.Races.{IsRace}
use Rattle.rtl_model.specs.simulation.Machine.{IsFirst, IsStep, IsMachineRun, entry_or, given, register_first, register_next}
use Rattle.rtl_levels.specs.Running.{AgreeOnLooks, IsDerivedAt, IsSettledAt, IsWritten, KeepsResets, behind_reset}

-- ---- visits

-- a driver's net stays settled where neither what the driver looks at nor the net itself changes
abbrev pub EachStaysSettled : Type 0
EachStaysSettled =
    (net : Netlist) → IsElaborated net → (p place : ℕ) (v w : List ℕ)
    → IsDerivedAt net p place → HasPlace net p place → IsSettledAt net v p place → AgreeOnLooks net p place v w
    → slice_index w (target net p place) ≡ slice_index v (target net p place)
    → IsSettledAt net w p place

-- From v to w, of the drivers that look at nothing that changes, p's are settled, and each that was still is.
pub record RunSettles (net : Netlist) (p : ℕ) (v w : List ℕ) : Type 0 where
  pub itself : (place : ℕ) → IsDerivedAt net p place → HasPlace net p place → AgreeOnLooks net p place v w
      → IsSettledAt net w p place
  pub others : (q place : ℕ) → IsDerivedAt net q place → HasPlace net q place → IsSettledAt net v q place
      → AgreeOnLooks net q place v w → IsSettledAt net w q place

abbrev pub EachRunSettles : Type 0
EachRunSettles =
    (net : Netlist) → IsElaborated net → IsAccepted net → (p : ℕ) (v w : List ℕ)
    → IsWritten net p v w → RunSettles net p v w

-- ---- clocked processes

-- Before the first moment there is no edge: what a run of the clocked process p leaves, and then its reset read in w,
-- gives what its registers start with.
abbrev pub EachStartIsTaken : Type 0
EachStartIsTaken =
    (net : Netlist) → IsElaborated net → IsAccepted net
    → (inputs : ℕ → ℕ) (p clock place : ℕ) (edge : Edge) (before w : List ℕ)
    → IsClockedBy net p clock edge → slice_index before clock ≡ slice_index (with_inputs net inputs net.start) clock
    → behind_reset net w p place
    (entry_or (slice_index_or ((process net p).effect before (with_inputs net inputs net.start)) place None)
    (slice_index net.start (target net p place)))
    ≡ register_first net p place inputs w

-- What the clocked process p does from the valuation v with new inputs, on the way to w.
pub record EdgeIsTaken (net : Netlist) (v : List ℕ) (inputs : ℕ → ℕ) (w : List ℕ) (p clock : ℕ) (edge : Edge)
    : Type 0 where
  -- Whatever the other nets had before, a run of p leaves what its registers have next, but for the reset in w. It
  -- reads the new inputs, and what they have next is told by v's. What the branch reads is the same in both: without a
  -- race no data input changes at an edge, and no branch reads a clock.
  pub taken : (before : List ℕ) (place : ℕ) → slice_index before clock ≡ slice_index v clock
      → behind_reset net w p place
      (entry_or (slice_index_or ((process net p).effect before (with_inputs net inputs v)) place None)
      (slice_index v (target net p place)))
      ≡ register_next net p place clock edge v inputs w
  -- where neither its clock has its edge nor its reset's net changes at once, they have v's values, but for the same
  pub left : (place : ℕ) → HasPlace net p place → net.edge edge (slice_index v clock) (inputs clock) ≡ false
      → ((reset : Reset) → HasReset net p reset → slice_index v reset.net ≡ given net v inputs reset.net)
      → behind_reset net w p place (slice_index v (target net p place))
      ≡ register_next net p place clock edge v inputs w

abbrev pub EachEdgeIsTaken : Type 0
EachEdgeIsTaken =
    (net : Netlist) → IsElaborated net → IsAccepted net
    → (v : List ℕ) → length v ≡ length net.start → KeepsResets net v
    → (inputs : ℕ → ℕ) → (IsRace net (slice_index v) inputs → ⊥)
    → (w : List ℕ) (p clock : ℕ) (edge : Edge) → IsClockedBy net p clock edge
    → EdgeIsTaken net v inputs w p clock edge

-- in the machine's first valuation registers have settled, and so they have in each that a step gives
pub record ResetsAreKept (net : Netlist) (inputs : ℕ → ℕ) (w : List ℕ) : Type 0 where
  pub first : IsFirst net inputs w → KeepsResets net w
  pub step : (v : List ℕ) → IsStep net v inputs w → KeepsResets net w

abbrev pub EachResetIsKept : Type 0
EachResetIsKept =
    (net : Netlist) → IsElaborated net → IsAccepted net → (inputs : ℕ → ℕ) (w : List ℕ) → ResetsAreKept net inputs w

-- ---- the run

-- these give each input the same value
abbrev pub AgreeOnInputs : Netlist → (given other : ℕ → ℕ) → Type 0
AgreeOnInputs net given other = (n : ℕ) → IsInput net n → given n ≡ other n

-- What begins as the machine does is its run's first valuation, and what a step gives is the next,
-- by any values that agree with the stimulus on the inputs.
pub record GoesOnAlike (net : Netlist) (stimulus : ℕ → ℕ → ℕ) (run : ℕ → List ℕ) : Type 0 where
  pub first : (given : ℕ → ℕ) (v : List ℕ) → AgreeOnInputs net given (stimulus 0) → IsFirst net given v → v ≡ run 0
  pub step : (m : ℕ) (given : ℕ → ℕ) (v : List ℕ) → AgreeOnInputs net given (stimulus (suc m))
      → IsStep net (run m) given v → v ≡ run (suc m)

abbrev pub EachMachineGoesOnAlike : Type 0
EachMachineGoesOnAlike =
    (net : Netlist) → IsElaborated net → IsAccepted net
    → (stimulus : ℕ → ℕ → ℕ) (run : ℕ → List ℕ) → IsMachineRun net stimulus run
    → GoesOnAlike net stimulus run
