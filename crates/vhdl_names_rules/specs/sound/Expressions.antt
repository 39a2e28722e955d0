-- What elaboration may take for granted of expressions: numbers are in range, parameters stand inside their generates
-- and loops, and one element stands where one is asked for.
use Rattle.std.specs.Prelude.{ℕ, ◌==◌, nat_lt, Bool, true, false, ◌&&◌, List, map, slice_get, Option, Some, None}
use Rattle.std.specs.List.{list_all}
use Rattle.vhdl_names_rules.specs.declared.operator.VectorOperator.{VectorOperator}
use Rattle.vhdl_names_rules.specs.declared.operator.VectorOperator.TheVariants as v
use Rattle.vhdl_names_rules.specs.units.Expressions as e
use Rattle.vhdl_names_rules.specs.units.Expressions.{Static, Range, StaticTest, Signal, Part, SignalPart, Computed, Chosen, Vector, Elements, Value, Test}
use Rattle.vhdl_names_rules.specs.units.Units as u
use Rattle.vhdl_names_rules.specs.units.Units.{Form}
use Rattle.vhdl_names_rules.specs.Rules.{◌>>=◌, then_some}

-- ---- what is declared where an expression stands

pub record Inside : Type 0 where
  pub generics : ℕ
  pub integers : ℕ
  -- how many ranges are declared
  pub ranges : ℕ
  pub constants : List Form
  pub ports : List u.Port
  pub signals : List Form
  pub variables : List Form
  -- how many generates and loops with a parameter stand round the place
  pub generates : ℕ
  pub loops : ℕ

-- ---- static integers

abbrev pub static_fits : Inside → Static → Bool
static_fits i (e.number n) = true
static_fits i (e.generic k) = nat_lt k i.generics
static_fits i (e.Static.constant k) = nat_lt k i.integers
static_fits i (e.generate_parameter k) = nat_lt k i.generates
static_fits i (e.loop_parameter k) = nat_lt k i.loops
static_fits i (e.Static.negated at x) = static_fits i x
static_fits i (e.absolute at x) = static_fits i x
static_fits i (e.bound b k) = nat_lt k i.ranges
static_fits i e.least_integer = true
static_fits i (e.slice_bound at b k l d r) = nat_lt k i.ranges && static_fits i l && static_fits i r
static_fits i (e.Static.binary at op x y) = static_fits i x && static_fits i y

abbrev pub range_fits : Inside → Range → Bool
range_fits i r = static_fits i r.left && static_fits i r.right

abbrev pub static_test_fits : Inside → StaticTest → Bool
static_test_fits i (e.known at x) = static_fits i x
static_test_fits i (e.StaticTest.compared at op x y) = static_fits i x && static_fits i y
static_test_fits i (e.StaticTest.negated t) = static_test_fits i t
static_test_fits i (e.StaticTest.both op t r) = static_test_fits i t && static_test_fits i r

-- ---- shapes: one element, as a boolean is, a vector, a value of an enumeration of so many literals, or an integer

pub data Shape : Type 0 where
  one : Shape
  vector : Shape
  state : (count : ℕ) → Shape
  number : Shape

abbrev pub shape_of : Form → Shape
shape_of u.element = one
shape_of (u.vector r) = vector
shape_of (u.enumeration count) = state count
shape_of (u.Form.number s) = number
shape_of u.boolean = one

-- a part of an object: elements and slices are parts of vectors
abbrev pub part_shape : Inside → Form → Part → Option Shape
part_shape i f e.whole = Some (shape_of f)
part_shape i (u.vector r) (e.Part.element x) = then_some (static_fits i x) one
part_shape i (u.vector r) (e.slice x) = then_some (range_fits i x) vector
part_shape i _ _ = None

abbrev pub port_form : u.Port → Form
port_form p = p.object.form

abbrev pub signal_form : Inside → Signal → Option Form
signal_form i (e.port k) = slice_get (map port_form i.ports) k
signal_form i (e.Signal.signal k) = slice_get i.signals k

abbrev pub place_shape : Inside → SignalPart → Option Shape
place_shape i p = signal_form i p.signal >>= λ f. part_shape i f p.part

-- ---- vectors and values

-- both are elements, or both are vectors
abbrev pub same_shape : Shape → Shape → Bool
same_shape one one = true
same_shape vector vector = true
same_shape (state m) (state n) = m == n
same_shape number number = true
same_shape _ _ = false

abbrev pub is_vector : Shape → Bool
is_vector vector = true
is_vector _ = false

-- of the nine values
abbrev pub is_elements : Shape → Bool
is_elements one = true
is_elements vector = true
is_elements _ = false

-- what an operator makes: logical operators of two alike, `&` of any two, arithmetic of two vectors
abbrev pub operated_shape : VectorOperator → Shape → Shape → Option Shape
operated_shape (v.Logical op) x y = then_some (same_shape x y && is_elements x) x
operated_shape v.Concatenate x y = then_some (is_elements x && is_elements y) vector
operated_shape (v.Arithmetic op) x y = then_some (is_vector x && is_vector y) vector

-- a vector and a static integer make a vector
abbrev pub with_static : Inside → Option Shape → Static → Option Shape
with_static i x n = do
  y ← x
  then_some (is_vector y && static_fits i n) vector

-- what a run chooses of a vector
abbrev pub chosen_shape : Chosen → Shape
chosen_shape (e.element_at x) = one
chosen_shape (e.slice_at x direction y) = vector

abbrev pub has_vector : Option Form → Bool
has_vector None = false
has_vector (Some f) = is_vector (shape_of f)

-- a range, if there is one
abbrev pub any_range_fits : Inside → Option Range → Bool
any_range_fits i None = true
any_range_fits i (Some r) = range_fits i r

abbrev pub index_fits : Inside → e.Index → Bool
index_fits i (e.index at x) = static_fits i x
index_fits i (e.indexes at r) = range_fits i r

abbrev pub is_one : Option Shape → Bool
is_one (Some one) = true
is_one _ = false

abbrev pub are_elements : Option Shape → Bool
are_elements None = false
are_elements (Some x) = is_elements x

abbrev pub is_number : Option Form → Bool
is_number (Some (u.Form.number s)) = true
is_number _ = false

abbrev pub is_vector_shape : Option Shape → Bool
is_vector_shape None = false
is_vector_shape (Some x) = is_vector x

abbrev mutual
  pub computed_fits : Inside → Computed → Bool
  computed_fits i (e.static s) = static_fits i s
  computed_fits i (e.number_of at x) = is_vector_shape (vector_shape i x)
  computed_fits i (e.signal_number x) = is_number (signal_form i x)
  computed_fits i (e.variable_number k) = is_number (slice_get i.variables k)
  computed_fits i (e.Computed.negated at x) = computed_fits i x
  computed_fits i (e.magnitude at x) = computed_fits i x
  computed_fits i (e.calculated at op x y) = computed_fits i x && computed_fits i y

  pub chosen_fits : Inside → Chosen → Bool
  chosen_fits i (e.element_at x) = computed_fits i x
  chosen_fits i (e.slice_at x direction y) = computed_fits i x && computed_fits i y

  pub vector_shape : Inside → Vector → Option Shape
  vector_shape i (e.of_signal p) = do
    x ← place_shape i p
    then_some (is_elements x) x
  vector_shape i (e.of_variable at k p) = do
    f ← slice_get i.variables k
    x ← part_shape i f p
    then_some (is_elements x) x
  vector_shape i (e.of_constant at k p) = do
    f ← slice_get i.constants k
    x ← part_shape i f p
    then_some (is_elements x) x
  vector_shape i (e.in_signal at x c) =
      then_some (has_vector (signal_form i x) && chosen_fits i c) (chosen_shape c)
  vector_shape i (e.in_variable at k c) =
      then_some (has_vector (slice_get i.variables k) && chosen_fits i c) (chosen_shape c)
  vector_shape i (e.in_constant at k c) =
      then_some (has_vector (slice_get i.constants k) && chosen_fits i c) (chosen_shape c)
  vector_shape i (e.character x) = Some one
  vector_shape i (e.enclosed_character x) = Some one
  vector_shape i (e.Vector.literal at xs) = Some vector
  vector_shape i (e.Vector.inverse x) = vector_shape i x
  vector_shape i (e.Vector.binary at op x y) = do
    a ← vector_shape i x
    b ← vector_shape i y
    operated_shape op a b
  vector_shape i (e.with_integer at op x n) = with_static i (vector_shape i x) n
  vector_shape i (e.integer_with at op n x) = with_static i (vector_shape i x) n
  vector_shape i (e.with_computed at op x n) =
      then_some (is_vector_shape (vector_shape i x) && computed_fits i n) vector
  vector_shape i (e.computed_with at op n x) =
      then_some (computed_fits i n && is_vector_shape (vector_shape i x)) vector
  vector_shape i (e.computed_encoded at n size) = then_some (computed_fits i n && static_fits i size) vector
  vector_shape i (e.shifted at by x n) =
      then_some (is_vector_shape (vector_shape i x) && computed_fits i n) vector
  vector_shape i (e.Vector.encoded at n size) = then_some (static_fits i n && static_fits i size) vector
  vector_shape i (e.counted at op x n) = with_static i (vector_shape i x) n
  vector_shape i (e.aggregate at r es) = then_some (any_range_fits i r && elements_fit i es) vector
  vector_shape i (e.sized at r x) = do
    y ← vector_shape i x
    then_some (is_vector y && range_fits i r) vector

  -- an element, or a vector, for the next ones, and an element for each index
  pub elements_fit : Inside → Elements → Bool
  elements_fit i e.no_elements = true
  elements_fit i (e.next x es) = are_elements (vector_shape i x) && elements_fit i es
  elements_fit i (e.chosen is x es) =
      list_all (index_fits i) is && is_one (vector_shape i x) && elements_fit i es
  elements_fit i (e.Elements.others x) = is_one (vector_shape i x)

-- ---- values

-- what is said to be of an enumeration is
abbrev pub state_shape : Form → Option Shape
state_shape (u.enumeration count) = Some (state count)
state_shape _ = None

-- a literal of an enumeration has no shape of its own
abbrev pub value_shape : Inside → Value → Option Shape
value_shape i (e.Value.elements x) = vector_shape i x
value_shape i (e.Value.position p) = None
value_shape i (e.state_of x) = signal_form i x >>= state_shape
value_shape i (e.state_of_variable k) = slice_get i.variables k >>= state_shape
value_shape i (e.Value.computed x) = then_some (computed_fits i x) number
value_shape i (e.static_truth t) = then_some (static_test_fits i t) one

abbrev pub position_fits : Shape → ℕ → Bool
position_fits (state count) p = nat_lt p count
position_fits _ p = false

abbrev pub fits_shape : Shape → Option Shape → Bool
fits_shape x None = false
fits_shape x (Some y) = same_shape x y

-- a value where one of this shape is asked for
abbrev pub value_fits : Inside → Shape → Value → Bool
value_fits i x (e.Value.position p) = position_fits x p
value_fits i x y = fits_shape x (value_shape i y)

abbrev pub value_fits_beside : Inside → Option Shape → Value → Bool
value_fits_beside i None y = false
value_fits_beside i (Some x) y = value_fits i x y

abbrev pub values_fit : Inside → Value → Value → Bool
values_fit i (e.Value.position p) (e.Value.position q) = true
values_fit i (e.Value.position p) y = value_fits_beside i (value_shape i y) (e.Value.position p)
values_fit i x y = value_fits_beside i (value_shape i x) y

-- ---- truths

-- no loop's parameter stands in the place of an edge
abbrev pub edge_fits : Inside → SignalPart → Bool
edge_fits i p = fits_shape one (place_shape (record i { loops = 0 }) p)

abbrev pub test_fits : Inside → Test → Bool
test_fits i (e.holds x) = fits_shape one (vector_shape i x)
test_fits i (e.Test.fixed t) = static_test_fits i t
test_fits i (e.alike at x y) = values_fit i x y
test_fits i (e.unlike at x y) = values_fit i x y
test_fits i (e.Test.compared at op x y) = fits_shape vector (vector_shape i x) && fits_shape vector (vector_shape i y)
test_fits i (e.compared_to at op x n) = fits_shape vector (vector_shape i x) && static_fits i n
test_fits i (e.compared_with at op n x) = static_fits i n && fits_shape vector (vector_shape i x)
test_fits i (e.compared_to_computed at op x n) = fits_shape vector (vector_shape i x) && computed_fits i n
test_fits i (e.compared_with_computed at op n x) = computed_fits i n && fits_shape vector (vector_shape i x)
test_fits i (e.computed_compared at op x y) = computed_fits i x && computed_fits i y
test_fits i (e.edge kind p) = edge_fits i p
test_fits i (e.event p) = edge_fits i p
test_fits i (e.Test.negated t) = test_fits i t
test_fits i (e.Test.both op t r) = test_fits i t && test_fits i r
