-- The table of operators (IEEE 1076-2008, 9.2; numeric_std for unsigned, 16.8): the operands' kinds, and the result's.
use Rattle.std.specs.Prelude.{ℕ, Bool, true, false, ◌==◌, if◌then◌else◌, Option, Some, None, option_map}
use Rattle.vhdl_values.specs.declared.kinds.Logic.{Logic}
use Rattle.vhdl_values.specs.declared.kinds.Logic.TheVariants as l
use Rattle.vhdl_values.specs.declared.kinds.Cmp.{Cmp}
use Rattle.vhdl_values.specs.declared.kinds.Cmp.TheVariants as c
use Rattle.vhdl_tree.specs.declared.operator.Operator.{Operator}
use Rattle.vhdl_tree.specs.declared.operator.Operator.TheVariants as o
use Rattle.vhdl_names_rules.specs.declared.kind.ElementKind.{ElementKind}
use Rattle.vhdl_names_rules.specs.declared.kind.ElementKind.TheVariants.{Element, LogicVector, Unsigned, OpenVector}
use Rattle.vhdl_names_rules.specs.declared.operator.Arithmetic.{Arithmetic}
use Rattle.vhdl_names_rules.specs.declared.operator.Arithmetic.TheVariants as a
use Rattle.vhdl_names_rules.specs.declared.operator.Numeric.{Numeric}
use Rattle.vhdl_names_rules.specs.declared.operator.Numeric.TheVariants as n
use Rattle.vhdl_names_rules.specs.declared.operator.VectorOperator.{VectorOperator}
use Rattle.vhdl_names_rules.specs.declared.operator.VectorOperator.TheVariants as v
use Rattle.vhdl_names_rules.specs.units.Expressions as u
use Rattle.vhdl_names_rules.specs.units.Expressions.{Static, Computed, StaticTest, Vector, Value, Test}
use Rattle.vhdl_names_rules.specs.declared.fault.NameProblem.TheVariants.{TypeMismatch, NotVisible, LeftOut}
use Rattle.vhdl_names_rules.specs.Rules.{◌>>=◌, ◌>>◌, rule, given_that}
pub use Rattle.vhdl_names_rules.specs.Types.{Typed, integer, computed, elements, enumerated, truth, interval, composite}
use Rattle.vhdl_names_rules.specs.Types.{TypedElements}
use Rattle.vhdl_names_rules.specs.Aggregates.{aggregate}

-- ---- kinds

-- two operands of one kind; an open vector takes the kind of the vector beside it
abbrev pub common_kind : ElementKind → ElementKind → Option ElementKind
common_kind Element Element = Some Element
common_kind LogicVector LogicVector = Some LogicVector
common_kind LogicVector OpenVector = Some LogicVector
common_kind OpenVector LogicVector = Some LogicVector
common_kind Unsigned Unsigned = Some Unsigned
common_kind Unsigned OpenVector = Some Unsigned
common_kind OpenVector Unsigned = Some Unsigned
common_kind OpenVector OpenVector = Some OpenVector
common_kind _ _ = None

-- the kind of a concatenation: elements stand beside elements and any vector (9.2.5)
abbrev pub joined_kind : ElementKind → ElementKind → Option ElementKind
joined_kind Element Element = Some OpenVector
joined_kind Element k = Some k
joined_kind k Element = Some k
joined_kind j k = common_kind j k

-- what numeric_std takes for a number: unsigned, and an open vector
abbrev pub is_number : ElementKind → Bool
is_number Unsigned = true
is_number OpenVector = true
is_number _ = false

abbrev pub are_numbers : ElementKind → ElementKind → Bool
are_numbers j k = if is_number j then is_number k else false

-- ---- logical operators (9.2.2). Each operator is told at the byte at which it starts.

abbrev pub binary : (at : ℕ) → VectorOperator → Vector → Vector → ElementKind → Typed
binary at op v w kind = elements kind (u.Vector.binary at op v w)

-- truth over integers alone stays so
abbrev pub both : Logic → Test → Test → Test
both op (u.fixed s) (u.fixed t) = u.fixed (u.StaticTest.both op s t)
both op s t = u.Test.both op s t

abbrev pub negated : Test → Test
negated (u.fixed t) = u.fixed (u.StaticTest.negated t)
negated t = u.Test.negated t

-- and or nand nor xor xnor: elements, vectors of one kind, or truths
abbrev pub logical : (at : ℕ) → Logic → Typed → Typed → Option Typed
logical at op (elements j x) (elements k y) = option_map (binary at (v.Logical op) x y) (common_kind j k)
logical at op (truth s) (truth t) = Some (truth (both op s t))
logical at _ _ _ = None

-- not: likewise
abbrev pub inverse : Typed → Option Typed
inverse (elements k x) = Some (elements k (u.Vector.inverse x))
inverse (truth t) = Some (truth (negated t))
inverse _ = None

-- ---- concatenation (9.2.5)

abbrev pub concatenated : (at : ℕ) → Typed → Typed → Option Typed
concatenated at (elements j x) (elements k y) = option_map (binary at v.Concatenate x y) (joined_kind j k)
concatenated at _ _ = None

-- ---- arithmetic operators (9.2.5, 9.2.7)

-- an integer, which a run may compute
abbrev pub as_computed : Typed → Option Computed
as_computed (integer s) = Some (u.static s)
as_computed (computed x) = Some x
as_computed _ = None

abbrev pub computes : (at : ℕ) → Arithmetic → Typed → Typed → Option Typed
computes at op x y = do
  a ← as_computed x
  b ← as_computed y
  Some (computed (u.calculated at op a b))

-- ** : static integers
abbrev pub raised : (at : ℕ) → Typed → Typed → Option Typed
raised at (integer s) (integer t) = Some (integer (u.Static.binary at a.Power s t))
raised at _ _ = None

-- / mod rem: integers; where a run computes one of them, it computes what they make
abbrev pub integral : (at : ℕ) → Arithmetic → Typed → Typed → Option Typed
integral at op (integer s) (integer t) = Some (integer (u.Static.binary at op s t))
integral at op x y = computes at op x y

-- + - *: integers; numbers; a number and an integer. Numbers need the operators of numeric_std in sight
abbrev pub arithmetic : (numbers : Bool) → (at : ℕ) → Arithmetic → Numeric → Typed → Typed → Option Typed
arithmetic numbers at op by (elements j x) (elements k y) = do
  rule NotVisible numbers
  given_that TypeMismatch (are_numbers j k) (elements Unsigned (u.Vector.binary at (v.Arithmetic by) x y))
arithmetic numbers at op by (elements j x) (integer t) = do
  rule NotVisible numbers
  given_that TypeMismatch (is_number j) (elements Unsigned (u.with_integer at by x t))
arithmetic numbers at op by (integer s) (elements k y) = do
  rule NotVisible numbers
  given_that TypeMismatch (is_number k) (elements Unsigned (u.integer_with at by s y))
arithmetic numbers at op by (elements j x) (computed t) = do
  rule NotVisible numbers
  given_that TypeMismatch (is_number j) (elements Unsigned (u.with_computed at by x t))
arithmetic numbers at op by (computed s) (elements k y) = do
  rule NotVisible numbers
  given_that TypeMismatch (is_number k) (elements Unsigned (u.computed_with at by s y))
arithmetic numbers at op by x y = integral at op x y

-- ---- relations (9.2.3)

abbrev pub integers_compared : (at : ℕ) → Cmp → Static → Static → Typed
integers_compared at op s t = truth (u.fixed (u.StaticTest.compared at op s t))

-- two integers, of which a run computes one at least
abbrev pub compares : (at : ℕ) → Cmp → Typed → Typed → Option Typed
compares at op x y = do
  a ← as_computed x
  b ← as_computed y
  Some (truth (u.computed_compared at op a b))

-- = and /= of one kind: numbers are compared as numbers, all else by its values
abbrev pub equal_by : (at : ℕ) → Cmp → (Value → Value → Test) → Vector → Vector → ElementKind → Typed
equal_by at op same x y Unsigned = truth (u.Test.compared at op x y)
equal_by at op same x y _ = truth (same (u.elements x) (u.elements y))

-- a vector of a known type
abbrev pub is_vector : ElementKind → Bool
is_vector LogicVector = true
is_vector Unsigned = true
is_vector _ = false

-- an aggregate beside a vector of a known type is free (9.3.3.3)
abbrev pub beside_vector : ElementKind → (at : ℕ) → TypedElements → Option Vector
beside_vector k at es = do
  rule TypeMismatch (is_vector k)
  aggregate k at None es

-- = and /=: integers; one kind; a number and an integer; one enumeration
abbrev pub equality : (at : ℕ) → Cmp → (Value → Value → Test) → Typed → Typed → Option Typed
equality at op same (integer s) (integer t) = Some (integers_compared at op s t)
equality at op same (elements j x) (elements k y) = option_map (equal_by at op same x y) (common_kind j k)
equality at op same (elements Unsigned x) (integer t) = Some (truth (u.compared_to at op x t))
equality at op same (integer s) (elements Unsigned y) = Some (truth (u.compared_with at op s y))
equality at op same (elements Unsigned x) (computed t) = Some (truth (u.compared_to_computed at op x t))
equality at op same (computed s) (elements Unsigned y) = Some (truth (u.compared_with_computed at op s y))
equality at op same (enumerated d m x) (enumerated e n y) = given_that TypeMismatch (d == e) (truth (same x y))
equality at op same (elements k x) (composite p es) =
    option_map (λ y. equal_by at op same x y k) (beside_vector k p es)
equality at op same (composite p es) (elements k y) =
    option_map (λ x. equal_by at op same x y k) (beside_vector k p es)
equality at op same x y = compares at op x y

-- < <= > >=: integers; numbers; a number and an integer
abbrev pub ordering : (numbers : Bool) → (at : ℕ) → Cmp → Typed → Typed → Option Typed
ordering numbers at op (integer s) (integer t) = Some (integers_compared at op s t)
ordering numbers at op (elements j x) (elements k y) = do
  rule NotVisible numbers
  given_that LeftOut (are_numbers j k) (truth (u.Test.compared at op x y))
ordering numbers at op (elements j x) (integer t) = do
  rule NotVisible numbers
  given_that LeftOut (is_number j) (truth (u.compared_to at op x t))
ordering numbers at op (integer s) (elements k y) = do
  rule NotVisible numbers
  given_that LeftOut (is_number k) (truth (u.compared_with at op s y))
ordering numbers at op (elements j x) (computed t) = do
  rule NotVisible numbers
  given_that LeftOut (is_number j) (truth (u.compared_to_computed at op x t))
ordering numbers at op (computed s) (elements k y) = do
  rule NotVisible numbers
  given_that LeftOut (is_number k) (truth (u.compared_with_computed at op s y))
ordering numbers at op x y = compares at op x y

-- = and /= of truths (9.2.3), which the wider language alone has
abbrev pub truths_related : Operator → Typed → Typed → Option Typed
truths_related o.Equal (truth s) (truth t) = Some (truth (both l.Xnor s t))
truths_related o.NotEqual (truth s) (truth t) = Some (truth (both l.Xor s t))
truths_related _ _ _ = None

-- ---- all binary operators

abbrev pub operated : (numbers : Bool) → (at : ℕ) → Operator → Typed → Typed → Option Typed
operated numbers at o.And = logical at l.And
operated numbers at o.Or = logical at l.Or
operated numbers at o.Xor = logical at l.Xor
operated numbers at o.Xnor = logical at l.Xnor
operated numbers at o.Nand = logical at l.Nand
operated numbers at o.Nor = logical at l.Nor
operated numbers at o.Equal = equality at c.Eq (u.alike at)
operated numbers at o.NotEqual = equality at c.Ne (u.unlike at)
operated numbers at o.Less = ordering numbers at c.Lt
operated numbers at o.LessEqual = ordering numbers at c.Le
operated numbers at o.Greater = ordering numbers at c.Gt
operated numbers at o.GreaterEqual = ordering numbers at c.Ge
operated numbers at o.Add = arithmetic numbers at a.Add n.Add
operated numbers at o.Subtract = arithmetic numbers at a.Subtract n.Subtract
operated numbers at o.Concatenate = concatenated at
operated numbers at o.Multiply = arithmetic numbers at a.Multiply n.Multiply
operated numbers at o.Divide = integral at a.Divide
operated numbers at o.Modulo = integral at a.Modulo
operated numbers at o.Remainder = integral at a.Remainder
