-- Laws of registers as they are written: what elaboration takes for granted of units stays.
use Rattle.std.specs.Prelude.{All, Contains, IsTrue}
use Rattle.vhdl_names_rules.specs.units.Units.{Units}
use Rattle.vhdl_names_rules.specs.units.Bytes.{units_bytes}
use Rattle.vhdl_names_rules.specs.sound.Units.{are_sound}
use Rattle.vhdl_names_rules.specs.sound.Named.{are_named}
use Rattle.vhdl_names_rules.specs.Registers.{units_written}

abbrev pub WrittenUnitsAreSound : Type 0
WrittenUnitsAreSound = (units : Units) → IsTrue (are_sound units) → IsTrue (are_sound (units_written units))

abbrev pub WrittenUnitsAreNamed : Type 0
WrittenUnitsAreNamed = (units : Units) → IsTrue (are_named units) → IsTrue (are_named (units_written units))

-- each byte of units as they are written is one of the units
abbrev pub WrittenUnitsStand : Type 0
WrittenUnitsStand = (units : Units) → All (λ b. Contains (units_bytes units) b) (units_bytes (units_written units))
