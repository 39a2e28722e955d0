-- Calm nets: those that a reset may be, since within a moment without a race they have one of the values at which it
-- holds only where the moment begins or ends with one (IEEE 1076-2008, 14.7.5.3). What a net is made of tells it.
use Rattle.std.specs.Prelude.{◌≡◌, ◌⊎◌, ℕ, Bool, false, [], ◌∷◌, Contains, Some, slice_index, IsTrue}
use Rattle.rtl_model.specs.simulation.Netlist.{Netlist, Driver, Copy, Reset, process, sources_of, reset_of, reset_entry}
use Rattle.rtl_model.specs.simulation.Netlist.{HasReset, IsCombinational, IsClockOf, IsClock, IsDriven}

-- an input that is no clock, or a net that no process drives, which never changes (14.7.3)
abbrev pub IsFromOutside : Netlist → (n : ℕ) → Type 0
IsFromOutside net n = (IsDriven net n → ⊥) × (IsClock net n → ⊥)

-- n's one source is the driver of a combinational process at this place
abbrev pub IsCombinationalNet : Netlist → (n p place : ℕ) → Type 0
IsCombinationalNet net n p place = IsCombinational net p × (sources_of net n ≡ Driver p place ∷ [])

-- and of a clocked process
abbrev pub IsRegister : Netlist → (n p place : ℕ) → Type 0
IsRegister net n p place = ((clock : ℕ) × IsClockOf net p clock) × (sources_of net n ≡ Driver p place ∷ [])

-- the driver of p at this place copies a net
abbrev pub Copies : Netlist → (p place : ℕ) → Copy → Type 0
Copies net p place copy = (process net p).copies place ≡ Some copy

-- n comes from outside, or looks at nets from outside alone: it changes with them, and once
abbrev pub FollowsInputs : Netlist → (n : ℕ) → Type 0
FollowsInputs net n =
    IsFromOutside net n
    ⊎ ((p : ℕ) × (place : ℕ) × IsCombinationalNet net n p place
    × ((m : ℕ) → Contains ((process net p).looks place) m → IsFromOutside net m))

-- n is made of inputs: it follows them, or copies, perhaps through copies, what does
pub data IsMadeOfInputs (net : Netlist) : (n : ℕ) → Type 0 where
  follows : (n : ℕ) → FollowsInputs net n → IsMadeOfInputs net n
  copies_made : (n p place : ℕ) (copy : Copy) → IsCombinationalNet net n p place → Copies net p place copy
      → IsMadeOfInputs net copy.net → IsMadeOfInputs net n

-- n is a register that is reset to one of these values, if at all
abbrev pub ResetsTo : Netlist → (n : ℕ) → (these : ℕ → Bool) → Type 0
ResetsTo net n these =
    (p : ℕ) × (place : ℕ) × IsRegister net n p place
    × ((value : ℕ) → reset_entry (reset_of net p) place ≡ Some value → IsTrue (these value))

-- A copy of n changes twice at the start, where it doesn't start as a copy of n's start. That does no harm if n starts
-- with none of these values, or is a register that is reset to one of them, if at all.
pub data StartsQuietly (net : Netlist) (n : ℕ) (these : ℕ → Bool) : Type 0 where
  starts_without : these (slice_index net.start n) ≡ false → StartsQuietly net n these
  resets_to_these : ResetsTo net n these → StartsQuietly net n these

-- n is calm for these values, where each reset is calm for its own
pub data IsCalm (net : Netlist) : (n : ℕ) → (these : ℕ → Bool) → Type 0 where
  -- it follows inputs;
  follows_inputs : (n : ℕ) (these : ℕ → Bool) → FollowsInputs net n → IsCalm net n these
  -- it is a register that is reset to one of them, if at all: once its reset has come, it ends with that;
  ends_reset : (n : ℕ) (these : ℕ → Bool) → ResetsTo net n these → IsCalm net n these
  -- or one whose reset is made of inputs;
  reset_by_inputs : (n p place : ℕ) (these : ℕ → Bool) (reset : Reset) → IsRegister net n p place
      → HasReset net p reset → IsMadeOfInputs net reset.net → IsCalm net n these
  -- or it copies a net that starts quietly and is calm, both for the values whose copy is one of these
  copies_calm : (n p place : ℕ) (these : ℕ → Bool) (copy : Copy) → IsCombinationalNet net n p place
      → Copies net p place copy → StartsQuietly net copy.net (λ value. these (copy.passed value))
      → IsCalm net copy.net (λ value. these (copy.passed value)) → IsCalm net n these
