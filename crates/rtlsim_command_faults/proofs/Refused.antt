-- Faults of a source.
use Rattle.std.proofs.Common.{◌≡◌, ℕ, false, refl}
use Rattle.rtlsim_command_faults.specs.Faults.{of_source, is_of_names}
use Rattle.rtlsim_command_faults.specs.Places.{IsTold}
use Rattle.vhdl_front_rules.specs.Faults.{LiesIn}
use Rattle.vhdl_front_rules.specs.declared.fault.SourceFault.{SourceFault}
use Rattle.vhdl_front_rules.specs.declared.fault.SourceFault.TheVariants as source

-- where they are told
pub source_told : (size : ℕ) (fault : SourceFault) → LiesIn size fault → IsTold size (of_source fault)
source_told size source.NoMemory h = tt
source_told size _ h = h

-- they aren't told by a netlist
pub nameless : (fault : SourceFault) → is_of_names (of_source fault) ≡ false
nameless source.NoMemory = refl
nameless _ = refl
