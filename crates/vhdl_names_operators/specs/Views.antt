-- What contracts see of numbers.
use Rattle.vhdl_names_rules.specs.Operators as o
use Rattle.vhdl_names_numbers.specs.Integers.{integer_view}
use Rattle.vhdl_names_trees.specs.views.Vectors.{vector_view}
use Rattle.vhdl_names_operators.specs.declared.numbers.Numbers.{Numbers}
use Rattle.vhdl_names_operators.specs.declared.numbers.Numbers.TheVariants as numbers
use Rattle.vhdl_names_rules.specs.declared.kind.ElementKind.TheVariants.{Unsigned}

abbrev pub numbers_view : Numbers → o.Typed × o.Typed
numbers_view (numbers.Integers s t) = (integer_view s, integer_view t)
numbers_view (numbers.Vectors x y) = (o.elements Unsigned (vector_view x), o.elements Unsigned (vector_view y))
numbers_view (numbers.IntegerSecond x t) = (o.elements Unsigned (vector_view x), integer_view t)
numbers_view (numbers.IntegerFirst s y) = (integer_view s, o.elements Unsigned (vector_view y))
