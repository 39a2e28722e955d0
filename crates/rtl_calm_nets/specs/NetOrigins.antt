-- Where the values of nets come from, as far as is asked whether they are calm.
use Rattle.std.specs.Prelude.{◌≡◌, ◌↔◌, ℕ, ◌<◌, ◌==◌, Bool, true, false, if◌then◌else◌, List, [], ◌∷◌, length, map, slice_index, slice_index_or, slice_set, Option, Some, None, IsTrue, Contains, Vec}
use Rattle.std.specs.Global.{Global}
use Rattle.rtl_model.specs.bodies.Copies.{passed_on}
use Rattle.rtl_model.specs.simulation.Netlist.{Netlist, Driver, Reset, Copy, process, sources_of, reset_of, reset_entry}
use Rattle.rtl_model.specs.simulation.Netlist.{HasReset, IsCombinational, IsClockOf, IsClock}
use Rattle.rtl_model.specs.simulation.Calm.{IsFromOutside, Copies}
use Rattle.rtl_body_facts.specs.declared.kinds.ProcessKind.{ProcessKind}
use Rattle.rtl_body_facts.specs.declared.kinds.ProcessKind.TheVariants as k
use Rattle.rtl_process_kinds.specs.AskedValues.{is_asked}
use Rattle.rtl_process_kinds.specs.declared.copies.BodyCopy.{BodyCopy}
use Rattle.rtl_calm_nets.specs.declared.origins.Origin.{Origin}
use Rattle.rtl_calm_nets.specs.declared.origins.Origin.TheVariants as o
use Rattle.rtl_calm_nets.specs.declared.resets.ResetTest.{ResetTest}

-- of each net whether it is a clock
pub record AreClockMarks (net : Netlist) (clocks : List Bool) : Type 0 where
  pub each_net : length clocks ≡ length net.start
  pub each : (n : ℕ) → n < length net.start → IsTrue (slice_index_or clocks n false) ↔ IsClock net n

-- the clock of a process of this kind is marked, if it has one
abbrev pub with_clock : ProcessKind → List Bool → List Bool
with_clock (k.Clocked c) clocks = slice_set clocks c.clock true
with_clock _ clocks = clocks

-- of each net whether it comes from outside
pub record AreOutside (net : Netlist) (outside : List Bool) : Type 0 where
  pub each_net : length outside ≡ length net.start
  pub each : (n : ℕ) → n < length net.start → IsTrue (slice_index_or outside n false) ↔ IsFromOutside net n

-- the process has this reset, of a net of the nine values, or none
abbrev pub IsResetTest : Netlist → (p : ℕ) → Option ResetTest → Type 0
IsResetTest net p None = reset_of net p ≡ None
IsResetTest net p (Some test) =
    (test.net < length net.start) × (slice_index net.limits test.net ≡ 9)
    × ((reset : Reset) × HasReset net p reset × (reset.net ≡ test.net)
    × ((value : ℕ) → is_asked test.asked value ≡ (value == reset.value)))

-- ---- drivers

abbrev pub IsClocked : Netlist → (p : ℕ) → Type 0
IsClocked net p = (clock : ℕ) × IsClockOf net p clock

-- the driver at this place of a combinational process looks at nets from outside alone
abbrev pub LooksOutside : Netlist → (p place : ℕ) → Type 0
LooksOutside net p place =
    IsCombinational net p × ((m : ℕ) → Contains ((process net p).looks place) m → IsFromOutside net m)

-- what the driver of p at this place gives to a net whose one source it is
abbrev pub Gives : Netlist → (p place : ℕ) → Origin → Type 0
Gives net p place o.Inputs = LooksOutside net p place
Gives net p place (o.Copied c) =
    (LooksOutside net p place → ⊥) × IsCombinational net p
    × Copies net p place (record { net = c.net; passed = passed_on c.inverted })
Gives net p place o.Unreset = IsClocked net p × (reset_entry (reset_of net p) place ≡ None)
Gives net p place (o.Reset by value) =
    IsClocked net p × ((reset : Reset) × HasReset net p reset × (reset.net ≡ by))
    × (reset_entry (reset_of net p) place ≡ Some value)
Gives net p place o.Other =
    (LooksOutside net p place → ⊥) × (IsClocked net p → ⊥)
    × ((copy : Copy) → IsCombinational net p → Copies net p place copy → ⊥)

abbrev pub given_at : List Origin → (place : ℕ) → Origin
given_at origins place = slice_index_or origins place o.Other

-- what each driver of p gives
pub record AreGiven (net : Netlist) (p : ℕ) (origins : List Origin) : Type 0 where
  pub each_driver : length origins ≡ length (process net p).drives
  pub each : (place : ℕ) → place < length origins → Gives net p place (given_at origins place)

-- the same of the drivers of the first processes
abbrev pub given_by : List (Vec Origin Global) → (p : ℕ) → List Origin
given_by all p = slice_index_or (map (λ (given : Vec Origin Global). given.items) all) p []

abbrev pub AllAreGiven : Netlist → List (Vec Origin Global) → Type 0
AllAreGiven net all = (p : ℕ) → p < length all → AreGiven net p (given_by all p)

-- ---- what the code computes of them

-- of a combinational process, where it is known whether the driver follows inputs, and what the body copies
abbrev pub combinational_origin : (follows : Bool) → Option BodyCopy → (place : ℕ) → Origin
combinational_origin true copy place = o.Inputs
combinational_origin false None place = o.Other
combinational_origin false (Some copy) place = if copy.place == place then o.Copied copy.copied else o.Other

-- of a clocked process with this reset, where the reset's branch has this entry
abbrev pub register_origin : (by : ℕ) → (entry : Option ℕ) → Origin
register_origin by None = o.Unreset
register_origin by (Some value) = o.Reset by value

-- ---- nets

pub data IsOrigin (net : Netlist) (n : ℕ) : Origin → Type 0 where
  outside : IsFromOutside net n → IsOrigin net n o.Inputs
  driven : (p place : ℕ) (origin : Origin) → (IsFromOutside net n → ⊥) → sources_of net n ≡ Driver p place ∷ []
      → Gives net p place origin → IsOrigin net n origin
  -- it has several sources, or an idle port alone
  without : (IsFromOutside net n → ⊥) → ((p place : ℕ) → sources_of net n ≡ Driver p place ∷ [] → ⊥)
      → IsOrigin net n o.Other

pub record AreOrigins (net : Netlist) (origins : List Origin) : Type 0 where
  pub each_net : length origins ≡ length net.start
  pub each : (n : ℕ) → n < length net.start → IsOrigin net n (given_at origins n)
