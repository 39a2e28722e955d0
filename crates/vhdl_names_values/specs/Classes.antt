-- Classes of types of the code.
use Rattle.vhdl_names_rules.specs.Subtypes as subtypes
use Rattle.vhdl_names_values.specs.declared.objects.TypeClass.{TypeClass}
use Rattle.vhdl_names_values.specs.declared.objects.TypeClass.TheVariants as c

abbrev pub type_class_view : TypeClass → subtypes.TypeClass
type_class_view c.Integers = subtypes.integers
type_class_view c.Booleans = subtypes.booleans
type_class_view c.Others = subtypes.others
