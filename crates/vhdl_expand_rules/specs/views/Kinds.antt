-- What contracts see of bounds, of kinds and of neighbouring places.
use Rattle.std.specs.Prelude.{ℕ, List}
use Rattle.std.specs.List.{range_with_len}
use Rattle.vhdl_expand_rules.specs.declared.bounds.Bounds.{Bounds}
use Rattle.vhdl_expand_rules.specs.declared.kind.ObjectKind.{ObjectKind}
use Rattle.vhdl_expand_rules.specs.declared.kind.ObjectKind.TheVariants as k
use Rattle.vhdl_expand_rules.specs.declared.kind.Run.{Run}
use Rattle.vhdl_expand_rules.specs.Kinds as definition
use Rattle.vhdl_expand_rules.specs.views.Integers.{range_view}

abbrev pub bounds_view : Bounds → definition.Bounds
bounds_view b = record { left = b.left; direction = b.direction; right = b.right }

abbrev pub kind_view : ObjectKind → definition.ObjectKind
kind_view k.One = definition.one
kind_view (k.Vector b) = definition.vector (bounds_view b)
kind_view (k.Enumeration count) = definition.enumeration count
kind_view (k.Integer r) = definition.integer (range_view r)
kind_view k.Boolean = definition.boolean

abbrev pub run_view : Run → List ℕ
run_view r = range_with_len r.first r.len
