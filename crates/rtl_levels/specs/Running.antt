-- What the runs of single processes are to a valuation.
use Rattle.std.specs.Prelude.{◌≡◌, ℕ, ◌<◌, ◌⊎◌, List, length, map, slice_index, slice_index_or, Option, None, Contains}
use Rattle.rtl_model.specs.basics.Valuations.{entry_where}
use Rattle.rtl_model.specs.simulation.Accepted.{IsResetBy}
use Rattle.rtl_model.specs.simulation.Netlist.{Netlist, Edge, process, target, reset_of, reset_entry, resets}
use Rattle.rtl_model.specs.simulation.Netlist.{HasPlace, IsClockedBy, IsCombinational}
use Rattle.rtl_model.specs.simulation.Machine.{entry_or}
use Rattle.rtl_kernel.specs.drivers.Updates.{IsTaken}

-- The net of p's driver at this place has settled in v: a run of p in v, which sees no event, would leave it as it is.
abbrev pub IsSettledAt : Netlist → (v : List ℕ) → (p place : ℕ) → Type 0
IsSettledAt net v p place =
    entry_or (slice_index_or ((process net p).effect v v) place None) (slice_index v (target net p place))
    ≡ slice_index v (target net p place)

-- the nets of all of p's drivers have
abbrev pub IsSettled : Netlist → (v : List ℕ) → (p : ℕ) → Type 0
IsSettled net v p = (place : ℕ) → HasPlace net p place → IsSettledAt net v p place

-- what a register has that had this value, once its reset has been read in v: the reset's entry where the reset holds,
-- if there is one
abbrev pub behind_reset : Netlist → (v : List ℕ) → (p place old : ℕ) → ℕ
behind_reset net v p place old =
    entry_or (entry_where (resets (reset_of net p) (slice_index v)) (reset_entry (reset_of net p) place)) old

-- p's driver at this place may change its net behind others: p is combinational, or the driver is reset by a net that
-- is made inside
abbrev pub IsDerivedAt : Netlist → (p place : ℕ) → Type 0
IsDerivedAt net p place = IsCombinational net p ⊎ ((n : ℕ) × IsResetBy net p place n)

-- it then looks at n
abbrev pub DriverLooksAt : Netlist → (p place n : ℕ) → Type 0
DriverLooksAt net p place n =
    (IsCombinational net p × Contains ((process net p).looks place) n) ⊎ IsResetBy net p place n

-- these agree on what the driver looks at
abbrev pub AgreeOnLooks : Netlist → (p place : ℕ) → (v w : List ℕ) → Type 0
AgreeOnLooks net p place v w = (n : ℕ) → DriverLooksAt net p place n → slice_index v n ≡ slice_index w n

-- w is v with the entries of a run at the nets of its drivers
pub record TakesOver (targets : List ℕ) (entries : List (Option ℕ)) (v w : List ℕ) : Type 0 where
  pub each_net : length w ≡ length v
  -- a target has its entry, and without one v's value
  pub on_targets : (place : ℕ) → place < length targets → slice_index w (slice_index targets place)
      ≡ entry_or (slice_index_or entries place None) (slice_index v (slice_index targets place))
  pub on_others : (n : ℕ) → ((place : ℕ) → place < length targets → slice_index targets place ≡ n → ⊥)
      → slice_index w n ≡ slice_index v n

-- the values that the targets have
abbrev pub at_targets : (targets v : List ℕ) → List ℕ
at_targets targets v = map (slice_index v) targets

-- some of the targets have their entries in w, all others what they have in v
pub record TakesPart (targets : List ℕ) (entries : List (Option ℕ)) (v w : List ℕ) : Type 0 where
  pub each_net : length w ≡ length v
  pub unassigned : (place : ℕ) → slice_index_or entries place None ≡ None
      → slice_index (at_targets targets w) place ≡ slice_index (at_targets targets v) place
  pub stay : (place : ℕ) → IsTaken entries (at_targets targets v) place → IsTaken entries (at_targets targets w) place
  pub on_others : (n : ℕ) → ((place : ℕ) → place < length targets → slice_index targets place ≡ n → ⊥)
      → slice_index w n ≡ slice_index v n

-- the net is that of a target which the entries give another value than it has in v
pub record IsNew (targets : List ℕ) (entries : List (Option ℕ)) (v : List ℕ) (net : ℕ) : Type 0 where
  pub place : ℕ
  pub there : place < length targets
  pub is : slice_index targets place ≡ net
  pub new : IsTaken entries (at_targets targets v) place → ⊥

-- w is v with p's entries in v at its targets
abbrev pub IsWritten : Netlist → (p : ℕ) → (v w : List ℕ) → Type 0
IsWritten net p v w = TakesOver (process net p).drives ((process net p).effect v v) v w

-- the registers of all clocked processes have settled in v: where a reset holds, they have its entries
abbrev pub KeepsResets : Netlist → (v : List ℕ) → Type 0
KeepsResets net v = (p clock : ℕ) (edge : Edge) → IsClockedBy net p clock edge → IsSettled net v p
