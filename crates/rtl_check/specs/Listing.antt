-- How lists of faults grow: by numbers, and of one number by the net or the process that they name first.
use Rattle.std.specs.Prelude.{◌≡◌, ℕ, Bool, ◌&&◌, ◌==◌, nat_lt, nat_le, List, ◌++◌, map, slice_index}
use Rattle.rtl_model.specs.simulation.Netlist.{Netlist}
use Rattle.rtl_model.specs.simulation.Accepted.{Fault}
use Rattle.rtl_model.specs.simulation.Faults.{fault_number, fault_place, AreFaultsOf}
use Rattle.rtl_check.specs.declared.fault.CheckFault.{CheckFault}
use Rattle.rtl_check.specs.Views.{fault_view}

-- the number of what it names first
abbrev pub first_named : Fault → ℕ
first_named fault = slice_index (fault_place fault) 0

-- of this number; those that name first a number below a bound, or this very one; of this number or a lower one
abbrev pub is_of_number : ℕ → Fault → Bool
is_of_number k fault = fault_number fault == k

abbrev pub below_place : ℕ → (bound : ℕ) → Fault → Bool
below_place k bound fault = is_of_number k fault && nat_lt (first_named fault) bound

abbrev pub one_place : ℕ → (first : ℕ) → Fault → Bool
one_place k first fault = is_of_number k fault && (first_named fault == first)

abbrev pub up_to : ℕ → Fault → Bool
up_to k fault = nat_le (fault_number fault) k

-- the netlist's faults of some kind are appended
pub record AddsFaults (net : Netlist) (among : Fault → Bool) (old new : List CheckFault) : Type 0 where
  pub added : List CheckFault
  pub is : new ≡ old ++ added
  pub are : AreFaultsOf net among (map fault_view added)
