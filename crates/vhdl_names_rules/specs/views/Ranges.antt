-- Ranges that are declared, and of which integers subtypes are.
use Rattle.vhdl_names_rules.specs.declared.range.DeclaredRange.{DeclaredRange}
use Rattle.vhdl_names_rules.specs.declared.range.IntegerBase.{IntegerBase}
use Rattle.vhdl_names_rules.specs.declared.range.IntegerBase.TheVariants as b
use Rattle.vhdl_names_rules.specs.units.Units as units
use Rattle.vhdl_names_rules.specs.Visibility as visibility

abbrev pub declared_range_view : DeclaredRange → visibility.DeclaredRange
declared_range_view r = record { number = r.number; direction = r.direction }

abbrev pub base_view : IntegerBase → units.Integers
base_view (b.Type w) = units.of_type w
base_view (b.Range k) = units.of_range k
