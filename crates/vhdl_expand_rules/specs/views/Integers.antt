-- What contracts see of the code's static integers, and of what it computes.
use Rattle.std.specs.Prelude.{◌≡◌, ℕ, List, [], ◌∷◌, ◌++◌, map, ℤ, Option, Some, None, Result, Ok, Err, if◌then◌else◌, ◌+ℤ◌}
use Rattle.vhdl_names_trees.specs.declared.integer.StaticLink.{StaticLink}
use Rattle.vhdl_names_trees.specs.views.Integers.{static_view}
use Rattle.vhdl_expand_rules.specs.declared.fault.ElabFault.{ElabFault}
use Rattle.vhdl_expand_rules.specs.declared.fault.ElabProblem.TheVariants.{StaticError}
use Rattle.vhdl_expand_rules.specs.declared.integer.Integers.{Integers}
use Rattle.vhdl_expand_rules.specs.declared.range.IntegerRange.{IntegerRange}
use Rattle.vhdl_expand_rules.specs.Elab.{Elab, ◌>>=◌, fault_told, refused}
use Rattle.vhdl_expand_rules.specs.Integers as definition
use Rattle.vhdl_expand_rules.specs.Integers.{checked_integer, are_opposite, integer_operation, integer, decision}

abbrev pub range_view : IntegerRange → definition.IntegerRange
range_view r = record { left = r.left; direction = r.direction; right = r.right }

-- of what may be there
abbrev pub if_any : {A : Type 0} → Option A → List A
if_any None = []
if_any (Some x) = x ∷ []

abbrev pub integers_view : Integers → definition.Integers
integers_view x = record {
  generics = x.generics.now;
  constants = x.constants.now ++ x.own_constants.now;
  generates = x.generates.now;
  loops = x.loops.now;
  ranges = map range_view x.ranges.now ++ map range_view x.own_ranges.now;
}

-- what is returned is what is computed, and it is refused just where that is, with the same problem at the same byte
abbrev pub Computes : {X : Type 0} → Elab X → Result X ElabFault → Type 0
Computes given (Ok x) = given ≡ Ok x
Computes given (Err fault) = given ≡ Err (fault_told fault)

-- the same of what contracts see of it
abbrev pub Makes : {X Y : Type 0} → (X → Y) → Elab Y → Result X ElabFault → Type 0
Makes view given (Ok x) = given ≡ Ok (view x)
Makes view given (Err fault) = given ≡ Err (fault_told fault)

-- a result that may not fit its type
abbrev pub in_range : (at : ℕ) → Option ℤ → Elab ℤ
in_range at None = refused StaticError at
in_range at (Some x) = checked_integer at x

-- a modulus of what remained: with the sign of the divisor
abbrev pub with_sign : ℤ → ℤ → ℤ
with_sign y r = if are_opposite r y then r +ℤ y else r

-- the operators of a chain, on the value of what stands before them
abbrev pub all_operated : definition.Integers → ℤ → List StaticLink → Elab ℤ
all_operated here x [] = Ok x
all_operated here x (l ∷ ls) = do
  y ← integer here l.at (static_view l.operand)
  z ← integer_operation l.at l.operator x y
  all_operated here z ls
