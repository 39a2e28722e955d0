-- What is declared: one element, a vector within its bounds, a value of an enumeration, an integer or a boolean; and
-- the parts of it that indexed names and slices mean (IEEE 1076-2008, 5.2.2, 5.2.3, 5.3.2, 8.4, 8.5).
use Rattle.std.specs.Prelude.{ℕ, Bool, not, ◌&&◌, nat_le, if◌then◌else◌, List, [], ◌∷◌, Option, Some, None, ℤ, pos, ◌-ℤ◌, int_le, nat_abs, Ok}
use Rattle.std.specs.List.{range_with_len}
use Rattle.vhdl_values.specs.declared.kinds.Counted.{Counted}
use Rattle.vhdl_values.specs.declared.kinds.Counted.TheVariants.{Resize, ResizeSigned, Shift}
use Rattle.vhdl_tree.specs.declared.operator.Direction.{Direction}
use Rattle.vhdl_tree.specs.declared.operator.Direction.TheVariants.{To, Downto}
use Rattle.vhdl_names_rules.specs.units.Expressions as u
use Rattle.vhdl_names_rules.specs.units.Expressions.{Static, Range, Part}
use Rattle.vhdl_names_rules.specs.units.Units.{Form}
use Rattle.vhdl_names_rules.specs.units.Units as units
use Rattle.rtl_model.specs.bodies.Types.{ElementType}
use Rattle.rtl_model.specs.bodies.Types as types
use Rattle.vhdl_lexer.specs.Literals.{greatest_integer}
use Rattle.vhdl_names_rules.specs.declared.operator.IntegerType.TheVariants.{Integer, Natural, Positive}
use Rattle.vhdl_expand_rules.specs.declared.fault.ElabProblem.TheVariants.{GenericRange, Index, TooWide}
use Rattle.vhdl_expand_rules.specs.Elab.{Elab, ◌>>=◌, ◌>>◌, refused, unless}
use Rattle.vhdl_numbers.specs.Digits.{digits_between}
use Rattle.vhdl_expand_rules.specs.Integers.{IntegerRange, Integers, least_integer, Numbers, of_type, of_range, numbers_of, natural, as_natural, is_null, is_negative, lower, upper, extent, is_same_direction}
use Rattle.vhdl_expand_rules.specs.Integers as integers
use Rattle.vhdl_expand_rules.specs.Computed.{Span, span}

-- the bounds of a vector, as they are declared
pub record Bounds : Type 0 where
  pub left : ℕ
  pub direction : Direction
  pub right : ℕ

pub data ObjectKind : Type 0 where
  one : ObjectKind
  vector : Bounds → ObjectKind
  enumeration : (count : ℕ) → ObjectKind
  -- a number of a range, which has one
  integer : IntegerRange → ObjectKind
  -- one element: '1' where it is true, and '0' where it is false
  boolean : ObjectKind

-- the range that a vector has
abbrev pub ranges_of : ObjectKind → List IntegerRange
ranges_of (vector b) = record { left = pos b.left; direction = b.direction; right = pos b.right } ∷ []
ranges_of _ = []

-- as it stands in text
abbrev pub written_range : ObjectKind → Option Range
written_range (vector b) =
    Some (record { left = u.number b.left; direction = b.direction; right = u.number b.right })
written_range _ = None

-- how many elements it has
abbrev pub bounds_size : Bounds → ℕ
bounds_size b = extent b.direction (pos b.left) (pos b.right)

abbrev pub range_span : IntegerRange → Span
range_span r = span (lower r) (upper r)

abbrev pub has_sign : IntegerRange → Bool
has_sign r = is_negative (lower r)

-- the fewest digits that hold each number of a range, one at least: without a sign where none is below 0
abbrev pub number_size : IntegerRange → ℕ
number_size r = digits_between (lower r) (upper r)

abbrev pub size : ObjectKind → ℕ
size one = 1
size (vector b) = bounds_size b
size (enumeration count) = 1
size (integer r) = number_size r
size boolean = 1

abbrev pub element_type : ObjectKind → ElementType
element_type one = types.nine_valued
element_type (vector b) = types.nine_valued
element_type (enumeration count) = types.enumeration count
element_type (integer r) = types.nine_valued
element_type boolean = types.nine_valued

-- ---- declared

-- Bounds are natural numbers, from 1 to 64 elements apart. A null range is refused whatever its bounds are.
unfoldable pub declared_bounds : Integers → (at : ℕ) → Range → Elab Bounds
declared_bounds here at r = do
  x ← integers.integer here at r.left
  y ← integers.integer here at r.right
  unless Index at (not (is_null r.direction x y))
  left ← as_natural at x
  right ← as_natural at y
  unless TooWide at (nat_le (extent r.direction x y) 64)
  Ok (record { left = left; direction = r.direction; right = right })

-- that of a type (5.2.3.2, 16.3)
abbrev pub range_of : Numbers → IntegerRange
range_of (of_type Integer) = record { left = least_integer; direction = To; right = pos greatest_integer }
range_of (of_type Natural) = record { left = pos 0; direction = To; right = pos greatest_integer }
range_of (of_type Positive) = record { left = pos 1; direction = To; right = pos greatest_integer }
range_of (of_range r) = r

-- an object of a null range has no value (5.2.1)
abbrev pub not_null : (at : ℕ) → IntegerRange → Elab IntegerRange
not_null at r = do
  unless GenericRange at (not (is_null r.direction r.left r.right))
  Ok r

unfoldable pub kind_of : Integers → (at : ℕ) → Form → Elab ObjectKind
kind_of here at units.element = Ok one
kind_of here at (units.vector r) = do
  b ← declared_bounds here at r
  Ok (vector b)
kind_of here at (units.enumeration count) = Ok (enumeration count)
kind_of here at (units.Form.number s) = do
  numbers ← numbers_of here at s
  r ← not_null at (range_of numbers)
  Ok (ObjectKind.integer r)
kind_of here at units.boolean = Ok boolean

-- the size that a call asks for
abbrev pub as_size : (at : ℕ) → ℕ → Elab ℕ
as_size at n = do
  unless Index at (nat_le 1 n)
  unless TooWide at (nat_le n 64)
  Ok n

unfoldable pub size_of : Integers → (at : ℕ) → Static → Elab ℕ
size_of here at s = do
  n ← natural here at s
  as_size at n

-- the count of an operator: a length, or how many places
unfoldable pub count_of : Counted → Integers → (at : ℕ) → Static → Elab ℕ
count_of Resize here at s = size_of here at s
count_of ResizeSigned here at s = size_of here at s
count_of (Shift by) here at s = natural here at s

-- ---- parts

abbrev pub is_within : Bounds → ℤ → Bool
is_within b i = range b.direction
  where
    range : Direction → Bool
    range To = int_le (pos b.left) i && int_le i (pos b.right)
    range Downto = int_le (pos b.right) i && int_le i (pos b.left)

-- the place of an index, counted from the left
abbrev pub place_of : Bounds → (at : ℕ) → ℤ → Elab ℕ
place_of b at i = if is_within b i then Ok (nat_abs (i -ℤ pos b.left)) else refused Index at

-- a slice has the direction of the declaration, has an element, and lies within the bounds
abbrev pub slice_places : Bounds → (at : ℕ) → Direction → (left right : ℤ) → Elab (List ℕ)
slice_places b at direction x y = do
  unless Index at (is_same_direction b.direction direction)
  unless Index at (not (is_null direction x y))
  first ← place_of b at x
  last ← place_of b at y
  Ok (range_with_len first (extent direction x y))

-- the places of a part, from the left
unfoldable pub places : Integers → (at : ℕ) → ObjectKind → Part → Elab (List ℕ)
places here at kind u.whole = Ok (range_with_len 0 (size kind))
places here at (vector b) (u.Part.element s) = do
  i ← integers.integer here at s
  p ← place_of b at i
  Ok (p ∷ [])
places here at (vector b) (u.slice r) = do
  x ← integers.integer here at r.left
  y ← integers.integer here at r.right
  slice_places b at r.direction x y
-- of what is no vector there are no parts, in units that names have passed
places here at _ _ = refused Index at
