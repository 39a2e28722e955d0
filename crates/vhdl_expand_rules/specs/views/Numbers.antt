-- What contracts see of the integers that a subtype of the code has.
use Rattle.std.specs.Prelude.{ℕ, Option, Some}
use Rattle.vhdl_names_trees.specs.declared.integer.StaticRange.{StaticRange}
use Rattle.vhdl_names_rules.specs.units.Expressions.{Range}
use Rattle.vhdl_names_trees.specs.views.Integers as names
use Rattle.vhdl_expand_rules.specs.declared.numbers.Numbers.{Numbers}
use Rattle.vhdl_expand_rules.specs.declared.numbers.Numbers.TheVariants as n
use Rattle.vhdl_expand_rules.specs.Integers as definition
use Rattle.vhdl_expand_rules.specs.views.Integers.{range_view}

abbrev pub numbers_view : Numbers → definition.Numbers
numbers_view (n.Type w) = definition.of_type w
numbers_view (n.Range r) = definition.of_range (range_view r)

-- a range that stands there, from this byte on
abbrev pub written_view : ℕ → StaticRange → Option (ℕ × Range)
written_view at r = Some (at, names.range_view r)
