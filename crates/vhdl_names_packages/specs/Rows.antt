-- What contracts see of a package's rows.
use Rattle.vhdl_names_rules.specs.Visibility as visibility
use Rattle.vhdl_names_rules.specs.Visibility.{declare, Meaning, Declared}
use Rattle.vhdl_names_packages.specs.declared.packages.Builtin.{Builtin}
use Rattle.vhdl_names_packages.specs.declared.packages.Builtin.TheVariants as b
use Rattle.vhdl_names_packages.specs.declared.packages.Row.{Row}

abbrev pub builtin_view : Builtin → Meaning
builtin_view (b.Integers w) = visibility.integer_type w
builtin_view b.Booleans = visibility.boolean_type
builtin_view (b.Boolean x) = visibility.boolean_literal x
builtin_view (b.Elements r) = visibility.element_type r
builtin_view (b.Vectors k r) = visibility.vector_type k r
builtin_view (b.Call f) = visibility.function f

abbrev pub row_view : Row → Declared
row_view r = declare r.name.now (builtin_view r.builtin)
