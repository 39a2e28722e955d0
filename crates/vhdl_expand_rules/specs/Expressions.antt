-- Expanded expressions: names are elements, lengths are computed, and a number beside a vector is a constant
-- (IEEE 1076-2008, clause 9; numeric_std).
use Rattle.std.specs.Prelude.{ℕ, ◌+◌, ◌==◌, Bool, true, false, nat_le, if◌then◌else◌, List, [], ◌∷◌, ◌++◌, length, slice_get, Option, ℤ, pos, int_le, nat_abs, Ok}
use Rattle.vhdl_tree.specs.declared.operator.Direction.{Direction}
use Rattle.vhdl_tree.specs.declared.operator.Direction.TheVariants.{To, Downto}
use Rattle.vhdl_values.specs.declared.scalar.Nine.{Nine}
use Rattle.vhdl_values.specs.declared.scalar.Nine.TheVariants.{One, Zero}
use Rattle.vhdl_values.specs.declared.kinds.Cmp.{Cmp}
use Rattle.vhdl_values.specs.declared.kinds.Cmp.TheVariants.{Eq, Ne, Lt, Le, Gt, Ge}
use Rattle.vhdl_values.specs.declared.kinds.Edge.{Edge}
use Rattle.vhdl_values.specs.declared.kinds.Edge.TheVariants.{Rising, Falling, To1, To0}
use Rattle.vhdl_values.specs.declared.kinds.Logic.TheVariants.{And}
use Rattle.vhdl_values.specs.Scalar.{value_of_truth}
use Rattle.vhdl_values.specs.Numbers.{digits_of}
use Rattle.vhdl_numbers.specs.Operators.{signed_length}
use Rattle.vhdl_names_rules.specs.declared.operator.Numeric.{Numeric}
use Rattle.vhdl_names_rules.specs.declared.operator.Numeric.TheVariants.{Add, Subtract, Multiply}
use Rattle.vhdl_names_rules.specs.declared.operator.VectorOperator.{VectorOperator}
use Rattle.vhdl_names_rules.specs.declared.operator.VectorOperator.TheVariants as v
use Rattle.vhdl_names_rules.specs.units.Expressions as u
use Rattle.vhdl_names_rules.specs.units.Expressions.{SignalPart, Computed, Chosen, Vector, Elements, Value, Test}
use Rattle.rtl_model.specs.bodies.Body as bodies
use Rattle.rtl_model.specs.bodies.Fits.{width}
use Rattle.rtl_model.specs.bodies.Rows.{Spacing}
use Rattle.vhdl_expand_rules.specs.declared.fault.ElabProblem.TheVariants.{StaticError, Index, TooWide}
use Rattle.vhdl_expand_rules.specs.Elab.{Elab, ◌>>=◌, ◌>>◌, same_length, unless}
use Rattle.vhdl_expand_rules.specs.Integers.{IntegerRange, integer, natural, decision, is_same_direction}
use Rattle.vhdl_expand_rules.specs.Kinds.{Bounds, range_span, number_size, as_size, size_of, count_of, declared_bounds, bounds_size}
use Rattle.vhdl_expand_rules.specs.Computed as numbers
use Rattle.vhdl_expand_rules.specs.Computed.{Number, digits_needed, known, natural_digits, relation}
use Rattle.vhdl_expand_rules.specs.Linear.{Linear, Measured, less, is_static, known_measured, as_term, negative_measured, measured_operation}
use Rattle.vhdl_expand_rules.specs.Aggregates.{Placed, next, chosen, others, given_indexes, chosen_indexes, composed}
use Rattle.vhdl_expand_rules.specs.Site.{Site, place_elements, signal_elements, variable_elements, constant_values, signal_bounds, variable_bounds, constant_bounds, integer_range, signal_kind, the_element}

-- ---- vectors

-- the operands of a logical operator are as long as each other; a result has at most 64 elements
abbrev pub operands_fit : (at : ℕ) → bodies.Operator → ℕ → ℕ → Elab (Unit {0})
operands_fit at (bodies.logical op) m n = same_length at m n
operands_fit at bodies.joined m n = unless TooWide at (nat_le (m + n) 64)
operands_fit at bodies.plus m n = Ok tt
operands_fit at bodies.minus m n = Ok tt
operands_fit at bodies.times m n = unless TooWide at (nat_le (m + n) 64)
operands_fit at (bodies.signed op) m n = unless TooWide at (nat_le (signed_length op m n) 64)

abbrev pub operation_on : (at : ℕ) → bodies.Operator → bodies.Expr → bodies.Expr → Elab bodies.Expr
operation_on at op d e = do
  operands_fit at op (width d) (width e)
  Ok (bodies.Expr.binary op d e)

abbrev pub numeric : Numeric → bodies.Operator
numeric Add = bodies.plus
numeric Subtract = bodies.minus
numeric Multiply = bodies.times

abbrev pub operator : VectorOperator → bodies.Operator
operator (v.Logical op) = bodies.logical op
operator v.Concatenate = bodies.joined
operator (v.Arithmetic op) = numeric op

-- ---- objects of integer types

-- a number as it is kept, in two's complement
abbrev pub signed_digits : IntegerRange → bodies.Expr → bodies.Expr
signed_digits r e =
    if number_size r == digits_needed (range_span r) then e
    else bodies.Expr.binary bodies.joined (bodies.constant (Zero ∷ [])) e

abbrev pub number_in : IntegerRange → bodies.Expr → Number
number_in r e = numbers.fitted (range_span r) (signed_digits r e)

unfoldable pub signal_number : Site → (at : ℕ) → u.Signal → Elab Number
signal_number here at x = do
  es ← signal_elements here at x u.whole
  r ← integer_range at (signal_kind here x)
  Ok (number_in r (bodies.signal es))

unfoldable pub variable_number : Site → (at : ℕ) → ℕ → Elab Number
variable_number here at k = do
  es ← variable_elements here at k u.whole
  r ← integer_range at (slice_get here.variables k)
  Ok (number_in r (bodies.variable es))

-- as it is kept: X where it doesn't lie within the range (own: 5.2.1 has an error there)
abbrev pub kept_in : IntegerRange → Number → bodies.Expr
kept_in r n = numbers.to_length (number_size r) (numbers.within (range_span r) n).digits

-- ---- what a run chooses of a vector

-- which row of those that begin one element further each time, and how long it is
pub record Row : Type 0 where
  pub index : bodies.Expr
  pub spacing : Spacing

-- the place of an index, counted from the left; one outside the bounds is the number of no place
unfoldable pub place_number : Bounds → Number → Number
place_number b x = by b.direction
  where
    by : Direction → Number
    by To = if b.left == 0 then x else numbers.difference x (known (pos b.left))
    by Downto = numbers.difference (known (pos b.left)) x

-- that begins at this index and has so many elements
abbrev pub row_from : Bounds → Number → (len : ℕ) → Row
row_from b x len = record { index = (place_number b x).digits; spacing = record { len = len; step = 1 } }

-- how many elements a slice has: its bounds differ by a static number, and some slice of that length lies in the vector
abbrev pub distance : (at : ℕ) → Direction → (left right : Linear) → Elab Linear
distance at To l r = less at r l
distance at Downto l r = less at l r

unfoldable pub slice_length : Bounds → (at : ℕ) → Direction → (left right : Linear) → Elab ℕ
slice_length b at direction l r = do
  unless Index at (is_same_direction b.direction direction)
  d ← distance at direction l r
  unless StaticError at (is_static d)
  unless Index at (int_le (pos 0) d.rest)
  unless Index at (nat_le (nat_abs d.rest + 1) (bounds_size b))
  Ok (nat_abs d.rest + 1)

-- ---- expressions

unfoldable mutual
  -- integers that a run computes; what is wrong with a static one is told at its operator, or else at this byte
  pub computed : Site → (at : ℕ) → Computed → Elab Number
  computed here at (u.static s) = do
    n ← integer here.integers at s
    Ok (known n)
  computed here _ (u.number_of at x) = do
    e ← vector here x
    numbers.number_read at e
  computed here at (u.signal_number x) = signal_number here at x
  computed here at (u.variable_number k) = variable_number here at k
  computed here _ (u.Computed.negated at x) = do
    a ← computed here at x
    Ok (numbers.negative_of a)
  computed here _ (u.magnitude at x) = do
    a ← computed here at x
    Ok (numbers.magnitude a)
  computed here _ (u.calculated at op x y) = do
    a ← computed here at x
    b ← computed here at y
    numbers.operation at op a b

  -- the same as sums of terms too
  pub measured : Site → (at : ℕ) → Computed → Elab Measured
  measured here at (u.static s) = do
    n ← integer here.integers at s
    Ok (known_measured n)
  measured here _ (u.number_of at x) = do
    e ← vector here x
    n ← numbers.number_read at e
    Ok (as_term n)
  measured here at (u.signal_number x) = do
    n ← signal_number here at x
    Ok (as_term n)
  measured here at (u.variable_number k) = do
    n ← variable_number here at k
    Ok (as_term n)
  measured here _ (u.Computed.negated at x) = do
    a ← measured here at x
    negative_measured at a
  measured here _ (u.magnitude at x) = do
    a ← computed here at x
    Ok (as_term (numbers.magnitude a))
  measured here _ (u.calculated at op x y) = do
    a ← measured here at x
    b ← measured here at y
    measured_operation at op a b

  -- Of a vector with these bounds, whose name starts here. Of a slice a run looks at the left bound alone (own).
  pub chosen_row : Site → (at : ℕ) → Bounds → Chosen → Elab Row
  chosen_row here at b (u.element_at x) = do
    i ← computed here at x
    Ok (row_from b i 1)
  chosen_row here at b (u.slice_at x direction y) = do
    l ← measured here at x
    r ← measured here at y
    len ← slice_length b at direction l.linear r.linear
    Ok (row_from b l.number len)

  pub vector : Site → Vector → Elab bodies.Expr
  vector here (u.of_signal p) = do
    es ← place_elements here p
    Ok (bodies.signal es)
  vector here (u.of_variable at k part) = do
    es ← variable_elements here at k part
    Ok (bodies.variable es)
  vector here (u.of_constant at k part) = do
    vs ← constant_values here at k part
    Ok (bodies.constant vs)
  vector here (u.in_signal at x c) = do
    es ← signal_elements here at x u.whole
    b ← signal_bounds here at x
    r ← chosen_row here at b c
    Ok (bodies.chosen r.index r.spacing (bodies.signal es))
  vector here (u.in_variable at k c) = do
    es ← variable_elements here at k u.whole
    b ← variable_bounds here at k
    r ← chosen_row here at b c
    Ok (bodies.chosen r.index r.spacing (bodies.variable es))
  vector here (u.in_constant at k c) = do
    vs ← constant_values here at k u.whole
    b ← constant_bounds here at k
    r ← chosen_row here at b c
    Ok (bodies.chosen r.index r.spacing (bodies.constant vs))
  vector here (u.character x) = Ok (bodies.constant (x ∷ []))
  vector here (u.enclosed_character x) = Ok (bodies.constant (x ∷ []))
  vector here (u.Vector.literal at xs) = do
    as_size at (length xs)
    Ok (bodies.constant xs)
  vector here (u.Vector.inverse x) = do
    e ← vector here x
    Ok (bodies.inverse e)
  vector here (u.Vector.binary at op x y) = do
    d ← vector here x
    e ← vector here y
    operation_on at (operator op) d e
  -- a natural number stands for its last digits, as many as the vector beside it has
  vector here (u.with_integer at op x s) = do
    e ← vector here x
    n ← natural here.integers at s
    operation_on at (numeric op) e (bodies.constant (digits_of (width e) n))
  vector here (u.integer_with at op s x) = do
    n ← natural here.integers at s
    e ← vector here x
    operation_on at (numeric op) (bodies.constant (digits_of (width e) n)) e
  -- a computed one likewise
  vector here (u.with_computed at op x y) = do
    e ← vector here x
    n ← computed here at y
    operation_on at (numeric op) e (natural_digits (width e) n)
  vector here (u.computed_with at op y x) = do
    n ← computed here at y
    e ← vector here x
    operation_on at (numeric op) (natural_digits (width e) n) e
  vector here (u.Vector.encoded at s t) = do
    n ← natural here.integers at s
    len ← size_of here.integers at t
    Ok (bodies.constant (digits_of len n))
  vector here (u.counted at op x s) = do
    e ← vector here x
    n ← count_of op here.integers at s
    Ok (bodies.counted op n e)
  vector here (u.computed_encoded at y t) = do
    n ← computed here at y
    len ← size_of here.integers at t
    Ok (natural_digits len n)
  vector here (u.shifted at by x y) = do
    e ← vector here x
    n ← computed here at y
    Ok (bodies.shifted by n.digits e)
  vector here (u.aggregate at r es) = do
    all ← given_indexes here.integers at r
    xs ← elements here at all [] es
    composed at all xs
  vector here (u.sized at r x) = do
    e ← vector here x
    b ← declared_bounds here.integers at r
    same_length at (width e) (bounds_size b)
    Ok e

  -- of an aggregate that starts here, where these indexes are taken: each with its choices before its value, which is
  -- one element
  pub elements : Site → (at : ℕ) → Option (List ℤ) → (taken : List ℤ) → Elements → Elab (List Placed)
  elements here at all taken u.no_elements = Ok []
  elements here at all taken (u.next x es) = do
    e ← vector here x
    rest ← elements here at all taken es
    Ok (next e ∷ rest)
  elements here at all taken (u.chosen cs x es) = do
    is ← chosen_indexes here.integers all taken cs
    e ← vector here x
    same_length at (width e) 1
    rest ← elements here at all (taken ++ is) es
    Ok (chosen is e ∷ rest)
  elements here at all taken (u.Elements.others x) = do
    e ← vector here x
    same_length at (width e) 1
    Ok (others e ∷ [])

-- ---- values

unfoldable pub value : Site → (at : ℕ) → Value → Elab bodies.Value
value here at (u.Value.elements x) = do
  e ← vector here x
  Ok (bodies.elements e)
value here at (u.Value.position n) = Ok (bodies.position n)
value here at (u.Value.computed x) = do
  n ← computed here at x
  Ok (bodies.elements n.digits)
value here at (u.static_truth t) = do
  b ← decision here.integers t
  Ok (bodies.elements (bodies.constant (value_of_truth b ∷ [])))
value here at (u.state_of s) = do
  e ← the_element at (signal_elements here at s u.whole)
  Ok (bodies.position_of e)
value here at (u.state_of_variable k) = do
  e ← the_element at (variable_elements here at k u.whole)
  Ok (bodies.position_in e)

-- ---- truths

-- `n op x` as `x op n`
abbrev pub converse_of : Cmp → Cmp
converse_of Eq = Eq
converse_of Ne = Ne
converse_of Lt = Gt
converse_of Le = Ge
converse_of Gt = Lt
converse_of Ge = Le

-- One element and a character literal. Of the forms `s = '1'`, `s = ('1')` with `(s) = '1'`, `'1' = s` and `('1') = s`
-- the first alone is plain: it makes an edge together with `s'event`. The literal of the second is an enclosed one.
abbrev pub level_test : (plain : Bool) → (es : List ℕ) → Nine → bodies.Test
level_test plain (e ∷ []) x = bodies.level plain e x
level_test plain es x = bodies.equal (bodies.elements (bodies.signal es)) (bodies.elements (bodies.constant (x ∷ [])))

abbrev pub place_level : Site → (plain : Bool) → SignalPart → Nine → Elab bodies.Test
place_level here plain p x = do
  es ← place_elements here p
  Ok (level_test plain es x)

abbrev pub alike : Site → (at : ℕ) → Value → Value → Elab bodies.Test
alike here at (u.Value.elements (u.of_signal p)) (u.Value.elements (u.character x)) = place_level here true p x
alike here at (u.Value.elements (u.of_signal p)) (u.Value.elements (u.enclosed_character x)) =
    place_level here false p x
alike here at (u.Value.elements (u.character x)) (u.Value.elements (u.of_signal p)) = place_level here false p x
alike here at (u.Value.elements (u.enclosed_character x)) (u.Value.elements (u.of_signal p)) =
    place_level here false p x
alike here at v w = do
  d ← value here at v
  e ← value here at w
  Ok (bodies.equal d e)

abbrev pub edge_test : Edge → (net : ℕ) → bodies.Test
edge_test Rising e = bodies.rising e
edge_test Falling e = bodies.falling e
edge_test To1 e = bodies.combined And (bodies.event e) (bodies.level true e One)
edge_test To0 e = bodies.combined And (bodies.event e) (bodies.level true e Zero)

unfoldable pub test : Site → Test → Elab bodies.Test
test here (u.holds x) = do
  e ← vector here x
  Ok (bodies.condition e)
test here (u.Test.fixed t) = do
  c ← decision here.integers t
  Ok (bodies.decided c)
test here (u.alike at v w) = alike here at v w
test here (u.unlike at v w) = do
  d ← value here at v
  e ← value here at w
  Ok (bodies.unequal d e)
test here (u.Test.compared at op x y) = do
  d ← vector here x
  e ← vector here y
  Ok (bodies.compared op d e)
test here (u.compared_to at op x s) = do
  e ← vector here x
  n ← natural here.integers at s
  Ok (bodies.compared_to op e n)
test here (u.compared_with at op s x) = do
  n ← natural here.integers at s
  e ← vector here x
  Ok (bodies.compared_to (converse_of op) e n)
-- numeric_std compares a number with a natural one
test here (u.compared_to_computed at op x y) = do
  e ← vector here x
  n ← computed here at y
  Ok (bodies.compared op e (numbers.natural n))
test here (u.compared_with_computed at op y x) = do
  n ← computed here at y
  e ← vector here x
  Ok (bodies.compared op (numbers.natural n) e)
test here (u.computed_compared at op x y) = do
  a ← computed here at x
  b ← computed here at y
  Ok (relation op a b)
test here (u.edge kind p) = do
  e ← the_element p.at (place_elements here p)
  Ok (edge_test kind e)
test here (u.event p) = do
  e ← the_element p.at (place_elements here p)
  Ok (bodies.event e)
test here (u.Test.negated t) = do
  c ← test here t
  Ok (bodies.negated c)
test here (u.Test.both op t r) = do
  c ← test here t
  d ← test here r
  Ok (bodies.combined op c d)
