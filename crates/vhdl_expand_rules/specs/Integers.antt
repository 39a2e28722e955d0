-- Static integers, truths over them, and the turns of loops and generates (IEEE 1076-2008, 9.4, 9.2.3 to 9.2.8, 5.2.1,
-- 5.2.3, 6.3, 10.10, 11.9, 16.2). What is wrong with an operand is told at its sign, operator or relation, and else at
-- the byte that is given.
use Rattle.std.specs.Prelude.{ℕ, zero, suc, ◌+◌, Bool, true, false, not, ◌&&◌, ◌||◌, ◌==◌, nat_le, if◌then◌else◌, List, [], ◌∷◌, Option, Some, None, slice_get, ℤ, pos, negsuc}
use Rattle.std.specs.Prelude.{◌+ℤ◌, ◌-ℤ◌, ◌*ℤ◌, neg_ℤ, int_div, int_rem, int_lt, int_le, nat_abs, Ok}
use Rattle.vhdl_lexer.specs.Literals.{greatest_integer}
use Rattle.vhdl_values.specs.declared.kinds.Cmp.{Cmp}
use Rattle.vhdl_values.specs.declared.kinds.Cmp.TheVariants.{Eq, Ne, Lt, Le, Gt, Ge}
use Rattle.vhdl_tree.specs.declared.operator.Direction.{Direction}
use Rattle.vhdl_tree.specs.declared.operator.Direction.TheVariants.{To, Downto}
use Rattle.vhdl_names_rules.specs.declared.operator.Arithmetic.{Arithmetic}
use Rattle.vhdl_names_rules.specs.declared.operator.Arithmetic.TheVariants.{Add, Subtract, Multiply, Divide, Modulo, Remainder, Power}
use Rattle.vhdl_names_rules.specs.declared.operator.Bound.{Bound}
use Rattle.vhdl_names_rules.specs.declared.operator.Bound.TheVariants.{Left, Right, High, Low, Length}
use Rattle.vhdl_names_rules.specs.declared.operator.IntegerType.{IntegerType}
use Rattle.vhdl_names_rules.specs.declared.operator.IntegerType.TheVariants.{Integer, Natural, Positive}
use Rattle.vhdl_names_rules.specs.units.Expressions as u
use Rattle.vhdl_names_rules.specs.units.Expressions.{Static, Range, StaticTest}
use Rattle.vhdl_names_rules.specs.units.Units as units
use Rattle.vhdl_names_rules.specs.units.Units.{IntegerSubtype}
use Rattle.rtl_model.specs.bodies.Tests.{truth}
use Rattle.vhdl_expand_rules.specs.declared.fault.ElabProblem.TheVariants.{GenericRange, StaticError, Index, TooMany}
use Rattle.vhdl_expand_rules.specs.Elab.{Elab, ◌>>=◌, ◌>>◌, refused, unless, item_or}

-- a range of integers (5.2.1)
pub record IntegerRange : Type 0 where
  pub left : ℤ
  pub direction : Direction
  pub right : ℤ

-- The integers that are known where an expression stands: of generics and constants by their numbers, and of the
-- parameters of the generates and loops round it, the outermost first; and the declared ranges by their numbers. A
-- boolean is known by its position.
pub record Integers : Type 0 where
  pub generics : List ℤ
  pub constants : List ℤ
  pub generates : List ℤ
  pub loops : List ℤ
  pub ranges : List IntegerRange

-- ---- values

-- the left bound of INTEGER (5.2.3.2)
abbrev pub least_integer : ℤ
least_integer = negsuc greatest_integer

-- Static integers are as great as those that are written, and as small below 0 (own): the left bound of INTEGER, one
-- less, is there by its name alone.
abbrev pub checked_integer : (at : ℕ) → ℤ → Elab ℤ
checked_integer at x = if nat_le (nat_abs x) greatest_integer then Ok x else refused StaticError at

abbrev pub is_negative : ℤ → Bool
is_negative x = int_lt x (pos 0)

-- whether one is above 0 and the other below
abbrev pub are_opposite : ℤ → ℤ → Bool
are_opposite x y = if is_negative y then int_lt (pos 0) x else is_negative x

-- `mod` has the sign of the divisor, where `rem` has that of the dividend (9.2.7)
abbrev pub modulus : ℤ → ℤ → ℤ
modulus x y = let r = int_rem x y in if are_opposite r y then r +ℤ y else r

-- there is no division by 0
abbrev pub division_with : (at : ℕ) → (ℤ → ℤ → ℤ) → ℤ → ℤ → Elab ℤ
division_with at by x y = if nat_abs y == 0 then refused StaticError at else checked_integer at (by x y)

-- so many times a factor; an exponent is natural (9.2.8)
abbrev pub power : ℤ → ℕ → ℤ
power x zero = pos 1
power x (suc n) = x *ℤ power x n

abbrev pub powered : (at : ℕ) → ℤ → ℤ → Elab ℤ
powered at x (pos n) = checked_integer at (power x n)
powered at x (negsuc n) = refused StaticError at

abbrev pub integer_operation : (at : ℕ) → Arithmetic → ℤ → ℤ → Elab ℤ
integer_operation at Add x y = checked_integer at (x +ℤ y)
integer_operation at Subtract x y = checked_integer at (x -ℤ y)
integer_operation at Multiply x y = checked_integer at (x *ℤ y)
integer_operation at Divide x y = division_with at int_div x y
integer_operation at Modulo x y = division_with at modulus x y
integer_operation at Remainder x y = division_with at int_rem x y
integer_operation at Power x y = powered at x y

-- the integer of this number, which is there in units that names have passed
abbrev pub known_integer : (at : ℕ) → List ℤ → ℕ → Elab ℤ
known_integer at xs k = item_or StaticError at (slice_get xs k)

-- ---- ranges

-- whether a range has no number in it
abbrev pub is_null : Direction → ℤ → ℤ → Bool
is_null To x y = int_lt y x
is_null Downto x y = int_lt x y

-- how many numbers are in it
abbrev pub extent : Direction → ℤ → ℤ → ℕ
extent direction x y = if is_null direction x y then 0 else nat_abs (x -ℤ y) + 1

abbrev pub lower : IntegerRange → ℤ
lower r = by r.direction
  where
    by : Direction → ℤ
    by To = r.left
    by Downto = r.right

abbrev pub upper : IntegerRange → ℤ
upper r = by r.direction
  where
    by : Direction → ℤ
    by To = r.right
    by Downto = r.left

-- its attributes (16.2.2, 16.2.3)
abbrev pub bound_of : Bound → IntegerRange → ℤ
bound_of Left r = r.left
bound_of Right r = r.right
bound_of High r = upper r
bound_of Low r = lower r
bound_of Length r = pos (extent r.direction r.left r.right)

abbrev pub has : IntegerRange → ℤ → Bool
has r x = int_le (lower r) x && int_le x (upper r)

-- a slice has the direction of the whole, has a number, and lies within it (8.5)
abbrev pub is_same_direction : Direction → Direction → Bool
is_same_direction To To = true
is_same_direction Downto Downto = true
is_same_direction _ _ = false

abbrev pub is_slice : (whole slice : IntegerRange) → Bool
is_slice whole s =
    is_same_direction whole.direction s.direction && not (is_null s.direction s.left s.right)
    && has whole s.left && has whole s.right

-- a length is a static integer as any other, and bounds are such already
abbrev pub bound_checked : (at : ℕ) → Bound → IntegerRange → Elab ℤ
bound_checked at Length r = checked_integer at (bound_of Length r)
bound_checked at b r = Ok (bound_of b r)

abbrev pub sliced_bound : (at : ℕ) → Bound → (whole slice : IntegerRange) → Elab ℤ
sliced_bound at b whole slice = do
  unless Index at (is_slice whole slice)
  bound_checked at b slice

abbrev pub known_range : (at : ℕ) → List IntegerRange → ℕ → Elab IntegerRange
known_range at rs k = item_or StaticError at (slice_get rs k)

-- ---- static integers

unfoldable pub integer : Integers → (at : ℕ) → Static → Elab ℤ
integer here at (u.number n) = checked_integer at (pos n)
integer here at (u.generic k) = known_integer at here.generics k
integer here at (u.Static.constant k) = known_integer at here.constants k
integer here at (u.generate_parameter k) = known_integer at here.generates k
integer here at (u.loop_parameter k) = known_integer at here.loops k
integer here _ (u.Static.negated at s) = do
  x ← integer here at s
  checked_integer at (neg_ℤ x)
integer here _ (u.absolute at s) = do
  x ← integer here at s
  checked_integer at (pos (nat_abs x))
integer here _ (u.Static.binary at op s t) = do
  x ← integer here at s
  y ← integer here at t
  integer_operation at op x y
integer here at (u.bound b k) = do
  r ← known_range at here.ranges k
  bound_checked at b r
integer here at u.least_integer = Ok least_integer
-- of a slice, which is computed
integer here _ (u.slice_bound at b k s direction t) = do
  r ← known_range at here.ranges k
  x ← integer here at s
  y ← integer here at t
  sliced_bound at b r (record { left = x; direction = direction; right = y })

-- where a natural number is needed
abbrev pub as_natural : (at : ℕ) → ℤ → Elab ℕ
as_natural at (pos n) = Ok n
as_natural at (negsuc n) = refused StaticError at

unfoldable pub natural : Integers → (at : ℕ) → Static → Elab ℕ
natural here at s = do
  x ← integer here at s
  as_natural at x

abbrev pub is_of : IntegerType → ℤ → Bool
is_of Integer x = true
is_of Natural x = int_le (pos 0) x
is_of Positive x = int_lt (pos 0) x

-- ---- integer subtypes (6.3)

-- which integers a subtype has: those of a type, or those in a range
pub data Numbers : Type 0 where
  of_type : IntegerType → Numbers
  of_range : IntegerRange → Numbers

abbrev pub have : Numbers → ℤ → Bool
have (of_type w) x = is_of w x
have (of_range r) x = has r x

abbrev pub base_numbers : Integers → (at : ℕ) → units.Integers → Elab Numbers
base_numbers here at (units.of_type w) = Ok (of_type w)
base_numbers here at (units.of_range k) = do
  r ← known_range at here.ranges k
  Ok (of_range r)

-- a range that stands there has bounds of its base, unless it is null; what is wrong with it is told where it starts
abbrev pub numbers_within : Integers → Numbers → Option (ℕ × Range) → Elab Numbers
numbers_within here base None = Ok base
numbers_within here base (Some (at, r)) = do
  x ← integer here at r.left
  y ← integer here at r.right
  unless GenericRange at (is_null r.direction x y || (have base x && have base y))
  Ok (of_range (record { left = x; direction = r.direction; right = y }))

unfoldable pub numbers_of : Integers → (at : ℕ) → IntegerSubtype → Elab Numbers
numbers_of here at s = do
  base ← base_numbers here at s.base
  numbers_within here base s.range

-- an integer that has to be one of these
abbrev pub integer_among : Integers → (at : ℕ) → Numbers → Static → Elab ℤ
integer_among here at numbers s = do
  x ← integer here at s
  unless GenericRange at (have numbers x)
  Ok x

-- of a constant of this subtype
unfoldable pub integer_of : IntegerSubtype → Integers → (at : ℕ) → Static → Elab ℤ
integer_of type here at s = do
  numbers ← numbers_of here at type
  integer_among here at numbers s

-- ---- truths

abbrev pub compares_integers : Cmp → ℤ → ℤ → Bool
compares_integers Eq x y = int_le x y && int_le y x
compares_integers Ne x y = int_lt x y || int_lt y x
compares_integers Lt x y = int_lt x y
compares_integers Le x y = int_le x y
compares_integers Gt x y = int_lt y x
compares_integers Ge x y = int_le y x

unfoldable pub decision : Integers → StaticTest → Elab Bool
decision here (u.known at s) = do
  x ← integer here at s
  Ok (int_lt (pos 0) x)
decision here (u.StaticTest.compared at op s t) = do
  x ← integer here at s
  y ← integer here at t
  Ok (compares_integers op x y)
decision here (u.StaticTest.negated t) = do
  b ← decision here t
  Ok (not b)
decision here (u.StaticTest.both op s t) = do
  b ← decision here s
  c ← decision here t
  Ok (truth op b c)

-- ---- turns

abbrev pub next : Direction → ℤ → ℤ
next To x = x +ℤ pos 1
next Downto x = x -ℤ pos 1

-- so many numbers, in this direction, this being the first
abbrev pub numbers_from : Direction → ℤ → ℕ → List ℤ
numbers_from direction x zero = []
numbers_from direction x (suc n) = x ∷ numbers_from direction (next direction x) n

-- what a loop or generate may take by itself
abbrev pub most_turns : ℕ
most_turns = 4096

-- the values that the parameter of a loop or generate takes, one a turn, in order
unfoldable pub turns : Integers → (at : ℕ) → Range → Elab (List ℤ)
turns here at r = do
  x ← integer here at r.left
  y ← integer here at r.right
  unless TooMany at (nat_le (extent r.direction x y) most_turns)
  Ok (numbers_from r.direction x (extent r.direction x y))
