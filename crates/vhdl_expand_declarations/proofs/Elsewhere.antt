-- What is found is found whatever byte is given: only what is refused is told at one.
use Rattle.std.proofs.Common.{◌≡◌, ℕ, Bool, true, false, not, ◌==◌, List, length, map, Option, Some, None, Ok, ℤ}
use Rattle.std.specs.Prelude.{pos, negsuc, nat_le, nat_abs, cond, slice_get}
use Rattle.vhdl_lexer.specs.Literals.{greatest_integer}
use Rattle.vhdl_values.specs.declared.scalar.Nine.{Nine}
use Rattle.vhdl_values.specs.Scalar.{code_of}
use Rattle.vhdl_values.specs.Numbers.{digits_of}
use Rattle.vhdl_names_rules.specs.units.Expressions as u
use Rattle.vhdl_names_rules.specs.units.Expressions.{Static, Range, Signal, Computed, Value}
use Rattle.vhdl_names_rules.specs.units.Statements as s
use Rattle.vhdl_names_rules.specs.units.Units as units
use Rattle.vhdl_names_rules.specs.units.Units.{Fixed, Form, IntegerSubtype}
use Rattle.rtl_model.specs.bodies.Body as bodies
use Rattle.rtl_model.specs.bodies.Fits.{width, value_width}
use Rattle.vhdl_names_rules.specs.declared.operator.Bound.{Bound}
use Rattle.vhdl_names_rules.specs.declared.operator.Bound.TheVariants as bounds
use Rattle.vhdl_expand_rules.specs.declared.fault.ElabProblem.{ElabProblem}
use Rattle.vhdl_expand_rules.specs.declared.fault.ElabProblem.TheVariants.{StaticError, GenericRange, Index, TooWide, Length}
use Rattle.vhdl_expand_rules.specs.Elab.{Elab, ◌>>=◌, refused, unless, item_or, same_length}
use Rattle.vhdl_expand_rules.specs.Integers.{Integers, checked_integer, bound_of, bound_checked, integer, as_natural, natural, IntegerRange, known_range, have, Numbers, base_numbers, numbers_within, numbers_of, of_range, integer_among, integer_of, is_null, extent}
use Rattle.vhdl_expand_rules.specs.Kinds.{ObjectKind, vector, enumeration, boolean, size, places, declared_bounds, range_of, not_null, kind_of, as_size, size_of}
use Rattle.vhdl_expand_rules.specs.Kinds as kinds
use Rattle.vhdl_expand_rules.specs.Site.{Site, Constant, signal_elements, variable_elements, signal_kind, integer_range, the_element}
use Rattle.vhdl_expand_rules.specs.Expressions as x
use Rattle.vhdl_expand_rules.specs.Statements.{value_given}
use Rattle.vhdl_expand_rules.specs.Declarations.{as_long_as, elements_of_value, position_of_value, fixed_values, given_starts, starts}
use Rattle.vhdl_expand_rules.proofs.Steps.{given}
use Rattle.vhdl_expand_declarations.specs.Constants.{constant_of}
use Rattle.vhdl_expand_declarations.specs.Objects.{shape_of}
use Rattle.vhdl_expand_declarations.proofs.Growing.{Stays, stays_same, stays_then}

gives-unless : (problem : ElabProblem) (at at' : ℕ) (test : Bool) → Stays (unless problem at test) (unless problem at' test)
gives-unless problem at at' true = stays_same (unless problem at true)
gives-unless problem at at' false = λ x h. absurd cc

gives-item : {A : Type 0} (problem : ElabProblem) (at at' : ℕ) (o : Option A) → Stays (item_or problem at o) (item_or problem at' o)
gives-item problem at at' None = λ x h. absurd cc
gives-item problem at at' (Some x) = stays_same (given x)

module _ (at at' : ℕ) where
  checked-gives : (x : ℤ) → Stays (checked_integer at x) (checked_integer at' x)
  checked-gives x = by (nat_le (nat_abs x) greatest_integer)
    where
      by : (t : Bool) → Stays (cond t (given x) (refused StaticError at)) (cond t (given x) (refused StaticError at'))
      by true = stays_same (given x)
      by false = λ y h. absurd cc

  bound-gives : (b : Bound) (r : IntegerRange) → Stays (bound_checked at b r) (bound_checked at' b r)
  bound-gives bounds.Length r = checked-gives (bound_of bounds.Length r)
  bound-gives _ r = λ y h. h

  integer-gives : (here : Integers) (t : Static) → Stays (integer here at t) (integer here at' t)
  unfolding integer
  integer-gives here (u.number n) = checked-gives (pos n)
  integer-gives here (u.generic k) = gives-item StaticError at at' (slice_get here.generics k)
  integer-gives here (u.Static.constant k) = gives-item StaticError at at' (slice_get here.constants k)
  integer-gives here (u.generate_parameter k) = gives-item StaticError at at' (slice_get here.generates k)
  integer-gives here (u.loop_parameter k) = gives-item StaticError at at' (slice_get here.loops k)
  integer-gives here (u.bound b k) =
      stays_then (known_range at here.ranges k) (known_range at' here.ranges k) _ _ (gives-item StaticError at at' (slice_get here.ranges k)) (λ r. bound-gives b r)
  integer-gives here _ = λ x h. h

  natural-as-gives : (x : ℤ) → Stays (as_natural at x) (as_natural at' x)
  natural-as-gives (pos n) = stays_same (given n)
  natural-as-gives (negsuc n) = λ y h. absurd cc

  natural-gives : (here : Integers) (t : Static) → Stays (natural here at t) (natural here at' t)
  unfolding natural
  natural-gives here t = stays_then (integer here at t) (integer here at' t) _ _ (integer-gives here t) (λ y. natural-as-gives y)

  base-gives : (here : Integers) (b : units.Integers) → Stays (base_numbers here at b) (base_numbers here at' b)
  base-gives here (units.of_type w) = stays_same _
  base-gives here (units.of_range k) =
      stays_then (known_range at here.ranges k) (known_range at' here.ranges k) _ _ (gives-item StaticError at at' (slice_get here.ranges k)) (λ r. stays_same _)

  numbers-gives : (here : Integers) (type : IntegerSubtype) → Stays (numbers_of here at type) (numbers_of here at' type)
  unfolding numbers_of
  numbers-gives here type = stays_then (base_numbers here at type.base) (base_numbers here at' type.base) _ _ (base-gives here type.base) (λ base. stays_same (numbers_within here base type.range))

  among-gives : (here : Integers) (numbers : Numbers) (t : Static) → Stays (integer_among here at numbers t) (integer_among here at' numbers t)
  among-gives here numbers t =
      stays_then (integer here at t) (integer here at' t) _ _ (integer-gives here t) (λ y.
      stays_then (unless GenericRange at (have numbers y)) (unless GenericRange at' (have numbers y)) _ _ (gives-unless GenericRange at at' (have numbers y)) (λ kept. stays_same _))

  integer_of-gives : (type : IntegerSubtype) (here : Integers) (t : Static) → Stays (integer_of type here at t) (integer_of type here at' t)
  unfolding integer_of
  integer_of-gives type here t =
      stays_then (numbers_of here at type) (numbers_of here at' type) _ _ (numbers-gives here type) (λ numbers. among-gives here numbers t)

  bounds-gives : (here : Integers) (r : Range) → Stays (declared_bounds here at r) (declared_bounds here at' r)
  unfolding declared_bounds
  bounds-gives here r =
      stays_then (integer here at r.left) (integer here at' r.left) _ _ (integer-gives here r.left) (λ x.
      stays_then (integer here at r.right) (integer here at' r.right) _ _ (integer-gives here r.right) (λ y.
      stays_then (unless Index at (not (is_null r.direction x y))) (unless Index at' (not (is_null r.direction x y))) _ _ (gives-unless Index at at' (not (is_null r.direction x y))) (λ some.
      stays_then (as_natural at x) (as_natural at' x) _ _ (natural-as-gives x) (λ left.
      stays_then (as_natural at y) (as_natural at' y) _ _ (natural-as-gives y) (λ right.
      stays_then (unless TooWide at (nat_le (extent r.direction x y) 64)) (unless TooWide at' (nat_le (extent r.direction x y) 64)) _ _ (gives-unless TooWide at at' (nat_le (extent r.direction x y) 64)) (λ most.
      stays_same _))))))

  null-gives : (r : IntegerRange) → Stays (not_null at r) (not_null at' r)
  null-gives r =
      let some : Bool = not (is_null r.direction r.left r.right) in
      stays_then (unless GenericRange at some) (unless GenericRange at' some) _ _ (gives-unless GenericRange at at' some) (λ kept. stays_same _)

  kind-gives : (here : Integers) (f : Form) → Stays (kind_of here at f) (kind_of here at' f)
  unfolding kind_of
  kind-gives here (units.vector r) = stays_then (declared_bounds here at r) (declared_bounds here at' r) _ _ (bounds-gives here r) (λ b. stays_same _)
  kind-gives here (units.Form.number t) =
      stays_then (numbers_of here at t) (numbers_of here at' t) _ _ (numbers-gives here t) (λ numbers.
      stays_then (not_null at (range_of numbers)) (not_null at' (range_of numbers)) _ _ (null-gives (range_of numbers)) (λ r. stays_same _))
  kind-gives here _ = λ x h. h

  size-gives : (n : ℕ) → Stays (as_size at n) (as_size at' n)
  size-gives n =
      stays_then (unless Index at (nat_le 1 n)) (unless Index at' (nat_le 1 n)) _ _ (gives-unless Index at at' (nat_le 1 n)) (λ some.
      stays_then (unless TooWide at (nat_le n 64)) (unless TooWide at' (nat_le n 64)) _ _ (gives-unless TooWide at at' (nat_le n 64)) (λ most. stays_same _))

  size_of-gives : (here : Integers) (t : Static) → Stays (size_of here at t) (size_of here at' t)
  unfolding size_of
  size_of-gives here t = stays_then (natural here at t) (natural here at' t) _ _ (natural-gives here t) (λ n. size-gives n)

  long-gives : (len : ℕ) (vs : List Nine) → Stays (as_long_as at len vs) (as_long_as at' len vs)
  long-gives len vs =
      stays_then (same_length at (length vs) len) (same_length at' (length vs) len) _ _ (gives-unless (Length (length vs) len) at at' (length vs == len)) (λ same. stays_same _)

  -- ---- values that are computed

  whole-gives : (here : Integers) (kind : ObjectKind) → Stays (places here at kind u.whole) (places here at' kind u.whole)
  unfolding places
  whole-gives here kind = stays_same _

  signal-gives : (here : Site) (n : Signal) → Stays (signal_elements here at n u.whole) (signal_elements here at' n u.whole)
  unfolding signal_elements
  signal-gives here (u.port k) =
      stays_then (item_or Index at (slice_get here.ports k)) (item_or Index at' (slice_get here.ports k)) _ _ (gives-item Index at at' (slice_get here.ports k)) (λ kind.
      stays_then (places here.integers at kind u.whole) (places here.integers at' kind u.whole) _ _ (whole-gives here.integers kind) (λ ps. stays_same _))
  signal-gives here (u.Signal.signal k) =
      stays_then (item_or Index at (slice_get here.signals k)) (item_or Index at' (slice_get here.signals k)) _ _ (gives-item Index at at' (slice_get here.signals k)) (λ kind.
      stays_then (places here.integers at kind u.whole) (places here.integers at' kind u.whole) _ _ (whole-gives here.integers kind) (λ ps. stays_same _))

  variable-gives : (here : Site) (k : ℕ) → Stays (variable_elements here at k u.whole) (variable_elements here at' k u.whole)
  unfolding variable_elements
  variable-gives here k =
      stays_then (item_or Index at (slice_get here.variables k)) (item_or Index at' (slice_get here.variables k)) _ _ (gives-item Index at at' (slice_get here.variables k)) (λ kind.
      stays_then (places here.integers at kind u.whole) (places here.integers at' kind u.whole) _ _ (whole-gives here.integers kind) (λ ps. stays_same _))

  the-element-gives : (r q : Elab (List ℕ)) → Stays r q → Stays (the_element at r) (the_element at' q)
  the-element-gives r q g = stays_then r q _ _ g (λ es. gives-item Index at at' (slice_get es 0))

  range-gives : (kind : Option ObjectKind) → Stays (integer_range at kind) (integer_range at' kind)
  range-gives (Some (kinds.integer r)) = stays_same _
  range-gives _ = λ y h. absurd cc

  computed-gives : (here : Site) (c : Computed) → Stays (x.computed here at c) (x.computed here at' c)
  unfolding x.vector x.signal_number x.variable_number
  computed-gives here (u.static t) = stays_then (integer here.integers at t) (integer here.integers at' t) _ _ (integer-gives here.integers t) (λ n. stays_same _)
  computed-gives here (u.signal_number n) =
      stays_then (signal_elements here at n u.whole) (signal_elements here at' n u.whole) _ _ (signal-gives here n) (λ es.
      stays_then (integer_range at (signal_kind here n)) (integer_range at' (signal_kind here n)) _ _ (range-gives (signal_kind here n)) (λ r. stays_same _))
  computed-gives here (u.variable_number k) =
      stays_then (variable_elements here at k u.whole) (variable_elements here at' k u.whole) _ _ (variable-gives here k) (λ es.
      stays_then (integer_range at (slice_get here.variables k)) (integer_range at' (slice_get here.variables k)) _ _ (range-gives (slice_get here.variables k)) (λ r. stays_same _))
  computed-gives here _ = stays_same _

  value-gives : (here : Site) (v : Value) → Stays (x.value here at v) (x.value here at' v)
  unfolding x.value
  value-gives here (u.Value.elements v) = stays_same _
  value-gives here (u.Value.position n) = stays_same _
  value-gives here (u.Value.computed c) = stays_then (x.computed here at c) (x.computed here at' c) _ _ (computed-gives here c) (λ n. stays_same _)
  value-gives here (u.static_truth t) = stays_same _
  value-gives here (u.state_of n) =
      stays_then (the_element at (signal_elements here at n u.whole)) (the_element at' (signal_elements here at' n u.whole)) _ _
      (the-element-gives (signal_elements here at n u.whole) (signal_elements here at' n u.whole) (signal-gives here n)) (λ e. stays_same _)
  value-gives here (u.state_of_variable k) =
      stays_then (the_element at (variable_elements here at k u.whole)) (the_element at' (variable_elements here at' k u.whole)) _ _
      (the-element-gives (variable_elements here at k u.whole) (variable_elements here at' k u.whole) (variable-gives here k)) (λ e. stays_same _)

  same-gives : (found needed : ℕ) → Stays (same_length at found needed) (same_length at' found needed)
  same-gives found needed = gives-unless (Length found needed) at at' (found == needed)

  given-gives : (here : Site) (len : ℕ) (g : s.Given) → Stays (value_given here at len g) (value_given here at' len g)
  unfolding value_given
  given-gives here len (s.single v) =
      stays_then (x.value here at v) (x.value here at' v) _ _ (value-gives here v) (λ e.
      stays_then (same_length at (value_width e) len) (same_length at' (value_width e) len) _ _ (same-gives (value_width e) len) (λ same. stays_same _))
  given-gives here len (s.filled v) =
      stays_then (x.vector here v) (x.vector here v) _ _ (stays_same (x.vector here v)) (λ e.
      stays_then (same_length at (width e) 1) (same_length at' (width e) 1) _ _ (same-gives (width e) 1) (λ same. stays_same _))

  elements-give : (len : ℕ) (v : bodies.Value) → Stays (elements_of_value at len v) (elements_of_value at' len v)
  elements-give len (bodies.elements e) = long-gives len _
  elements-give len _ = λ y h. absurd cc

  position-gives : (v : bodies.Value) → Stays (position_of_value at v) (position_of_value at' v)
  position-gives (bodies.position n) = stays_same _
  position-gives _ = λ y h. absurd cc

  fixed-gives : (here : Site) (len : ℕ) (f : Fixed) → Stays (fixed_values here at len f) (fixed_values here at' len f)
  unfolding fixed_values
  fixed-gives here len (units.Fixed.literal vs) = long-gives len vs
  fixed-gives here len (units.Fixed.constant k) =
      stays_then (item_or Index at (slice_get here.constants k)) (item_or Index at' (slice_get here.constants k)) _ _ (gives-item Index at at' (slice_get here.constants k)) (λ (c : Constant). long-gives len c.values)
  fixed-gives here len (units.Fixed.encoded r t) =
      stays_then (natural here.integers at r) (natural here.integers at' r) _ _ (natural-gives here.integers r) (λ n.
      stays_then (size_of here.integers at t) (size_of here.integers at' t) _ _ (size_of-gives here.integers t) (λ m. long-gives len (digits_of m n)))
  fixed-gives here len (units.Fixed.filled v) = λ y h. h
  fixed-gives here len (units.Fixed.given g) =
      stays_then (value_given here at len g) (value_given here at' len g) _ _ (given-gives here len g) (λ v. elements-give len v)
  fixed-gives here len _ = λ y h. absurd cc

  coded-gives : (here : Site) (len : ℕ) (f : Fixed) → Stays (fixed_values here at len f >>= λ vs. given (map code_of vs)) (fixed_values here at' len f >>= λ vs. given (map code_of vs))
  coded-gives here len f = stays_then (fixed_values here at len f) (fixed_values here at' len f) _ _ (fixed-gives here len f) (λ vs. stays_same _)

  values-gives : (here : Site) (kind : ObjectKind) (f : Fixed) → Stays (given_starts here at kind f) (given_starts here at' kind f)
  values-gives here (vector b) f = coded-gives here (size (vector b)) f
  values-gives here (enumeration count) (units.Fixed.position n) = λ x h. h
  values-gives here (enumeration count) (units.Fixed.given g) =
      stays_then (value_given here at 1 g) (value_given here at' 1 g) _ _ (given-gives here 1 g) (λ v. position-gives v)
  values-gives here boolean (units.Fixed.truth t) = stays_same _
  values-gives here (kinds.integer r) (units.Fixed.integer t) =
      stays_then (integer_among here.integers at (of_range r) t) (integer_among here.integers at' (of_range r) t) _ _ (among-gives here.integers (of_range r) t) (λ n. stays_same _)
  values-gives here kind f = coded-gives here (size kind) f

  starts-gives : (here : Site) (kind : ObjectKind) (d : Option Fixed) → Stays (starts here at kind d) (starts here at' kind d)
  unfolding starts
  starts-gives here (kinds.integer r) None = λ x h. h
  starts-gives here kind None = λ x h. h
  starts-gives here kind (Some f) = values-gives here kind f

pub integer_elsewhere : (type : IntegerSubtype) (here : Integers) (at at' : ℕ) (t : Static) (y : ℤ) → integer_of type here at t ≡ Ok y → integer_of type here at' t ≡ Ok y
integer_elsewhere type here at at' t y h = integer_of-gives at at' type here t y h

pub constant_elsewhere : (here : Site) (at at' : ℕ) (form : Form) (f : Fixed) (c : Constant) → constant_of here at form f ≡ Ok c → constant_of here at' form f ≡ Ok c
constant_elsewhere here at at' form f c h =
    (stays_then (kind_of here.integers at form) (kind_of here.integers at' form) _ _ (kind-gives at at' here.integers form) (λ kind.
    stays_then (fixed_values here at (size kind) f) (fixed_values here at' (size kind) f) _ (λ vs. given (record { kind = kind; values = vs })) (fixed-gives at at' here (size kind) f) (λ vs. stays_same _))) c h

pub shape_elsewhere : (here : Site) (at at' : ℕ) (form : Form) (d : Option Fixed) (p : ObjectKind × List ℕ) → shape_of here at form d ≡ Ok p → shape_of here at' form d ≡ Ok p
shape_elsewhere here at at' form d p h =
    (stays_then (kind_of here.integers at form) (kind_of here.integers at' form) _ _ (kind-gives at at' here.integers form) (λ kind.
    stays_then (starts here at kind d) (starts here at' kind d) _ (λ vs. given (kind, vs)) (starts-gives at at' here kind d) (λ vs. stays_same _))) p h
