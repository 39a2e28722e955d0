-- Which nets processes drive, and which of these are resets.
use Rattle.std.specs.Prelude.{ℕ, Bool, Option, None, Some}
use Rattle.std.specs.List.{list_any}
use Rattle.rtl_model.specs.simulation.Netlist.{Netlist, Process, sources_of}
use Rattle.rtl_model.specs.simulation.Accepted.{IsInnerReset}
use Rattle.rtl_model.specs.simulation.Levels.{is_driver}

abbrev pub is_driven : Netlist → (n : ℕ) → Bool
is_driven net n = list_any is_driver (sources_of net n)

-- it is sensitive to a net that a process drives
abbrev pub follows_driver : Netlist → Process → Bool
follows_driver net p = list_any (is_driven net) p.wakes

-- the net of p's reset where some process drives it, if it is so
abbrev pub IsInner : Netlist → (p : ℕ) → Option ℕ → Type 0
IsInner net p None = (n : ℕ) → IsInnerReset net p n → ⊥
IsInner net p (Some n) = IsInnerReset net p n
