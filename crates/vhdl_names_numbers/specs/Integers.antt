-- Integers of the code as operands, and relations of them.
use Rattle.std.specs.Prelude.{ℕ, Option, Some, None}
use Rattle.vhdl_values.specs.declared.kinds.Cmp.{Cmp}
use Rattle.vhdl_names_rules.specs.Rules.{◌>>=◌}
use Rattle.vhdl_names_trees.specs.declared.typed.Typed.{Typed as Operand}
use Rattle.vhdl_names_trees.specs.declared.typed.Typed.TheVariants as operand
use Rattle.vhdl_names_rules.specs.Operators.{Typed, integer, computed, integers_compared, compares}
use Rattle.vhdl_names_rules.specs.units.Expressions as u
use Rattle.vhdl_names_rules.specs.units.Expressions.{Vector, Test}
use Rattle.vhdl_names_trees.specs.views.Integers.{static_view}
use Rattle.vhdl_names_trees.specs.views.Vectors.{computed_view}
use Rattle.vhdl_names_numbers.specs.declared.integer.Integer.{Integer}
use Rattle.vhdl_names_numbers.specs.declared.integer.Integer.TheVariants as i

abbrev pub integer_view : Integer → Typed
integer_view (i.Static s) = integer (static_view s)
integer_view (i.Computed x) = computed (computed_view x)

abbrev pub operand_of : Integer → Operand
operand_of (i.Static s) = operand.Integer s
operand_of (i.Computed x) = operand.Computed x

abbrev pub both_view : Integer × Integer → Typed × Typed
both_view p = (integer_view p.0, integer_view p.1)

-- the integer that an operand is
abbrev pub integer_of : Typed → Option Typed
integer_of (integer s) = Some (integer s)
integer_of (computed x) = Some (computed x)
integer_of _ = None

abbrev pub integers_of : Typed → Typed → Option (Typed × Typed)
integers_of x y = do
  a ← integer_of x
  b ← integer_of y
  Some (a, b)

-- ---- relations

abbrev pub integers_related : (at : ℕ) → Cmp → Typed → Typed → Option Typed
integers_related at op (integer s) (integer t) = Some (integers_compared at op s t)
integers_related at op x y = compares at op x y

-- of a number and an integer, and of an integer and a number
abbrev pub number_beside : (at : ℕ) → Cmp → Vector → Typed → Option Test
number_beside at op x (integer t) = Some (u.compared_to at op x t)
number_beside at op x (computed t) = Some (u.compared_to_computed at op x t)
number_beside at op x _ = None

abbrev pub beside_number : (at : ℕ) → Cmp → Typed → Vector → Option Test
beside_number at op (integer s) y = Some (u.compared_with at op s y)
beside_number at op (computed s) y = Some (u.compared_with_computed at op s y)
beside_number at op _ y = None
