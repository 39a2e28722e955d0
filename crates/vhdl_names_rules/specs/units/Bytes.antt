-- The bytes of the text that units have: elaboration tells what is wrong at one of them, or at 0.
use Rattle.std.specs.Prelude.{ℕ, List, [], ◌∷◌, ◌++◌, flat_map, Option, Some, None}
use Rattle.vhdl_names_rules.specs.units.Expressions as e
use Rattle.vhdl_names_rules.specs.units.Expressions.{Static, Range, StaticTest, Part, SignalPart, Index, Computed, Chosen, Vector, Elements, Value, Test}
use Rattle.vhdl_names_rules.specs.units.Statements as s
use Rattle.vhdl_names_rules.specs.units.Units as u
use Rattle.vhdl_names_rules.specs.units.Units.{Form, Fixed, Units}

-- of a thing that may be absent
abbrev pub if_any_bytes : {A : Type 0} → (A → List ℕ) → Option A → List ℕ
if_any_bytes f None = []
if_any_bytes f (Some x) = f x

-- ---- expressions

abbrev pub static_bytes : Static → List ℕ
static_bytes (e.Static.negated at x) = at ∷ static_bytes x
static_bytes (e.absolute at x) = at ∷ static_bytes x
static_bytes (e.slice_bound at b k l d r) = at ∷ (static_bytes l ++ static_bytes r)
static_bytes (e.Static.binary at op x y) = at ∷ (static_bytes x ++ static_bytes y)
static_bytes _ = []

abbrev pub range_bytes : Range → List ℕ
range_bytes r = static_bytes r.left ++ static_bytes r.right

abbrev pub static_test_bytes : StaticTest → List ℕ
static_test_bytes (e.known at x) = at ∷ static_bytes x
static_test_bytes (e.StaticTest.compared at op x y) = at ∷ (static_bytes x ++ static_bytes y)
static_test_bytes (e.StaticTest.negated t) = static_test_bytes t
static_test_bytes (e.StaticTest.both op t r) = static_test_bytes t ++ static_test_bytes r

abbrev pub part_bytes : Part → List ℕ
part_bytes e.whole = []
part_bytes (e.Part.element x) = static_bytes x
part_bytes (e.slice r) = range_bytes r

abbrev pub place_bytes : SignalPart → List ℕ
place_bytes p = p.at ∷ part_bytes p.part

abbrev pub index_bytes : Index → List ℕ
index_bytes (e.index at x) = at ∷ static_bytes x
index_bytes (e.indexes at r) = at ∷ range_bytes r

abbrev mutual
  pub computed_bytes : Computed → List ℕ
  computed_bytes (e.static x) = static_bytes x
  computed_bytes (e.number_of at x) = at ∷ vector_bytes x
  computed_bytes (e.signal_number x) = []
  computed_bytes (e.variable_number k) = []
  computed_bytes (e.Computed.negated at x) = at ∷ computed_bytes x
  computed_bytes (e.magnitude at x) = at ∷ computed_bytes x
  computed_bytes (e.calculated at op x y) = at ∷ (computed_bytes x ++ computed_bytes y)

  pub chosen_bytes : Chosen → List ℕ
  chosen_bytes (e.element_at x) = computed_bytes x
  chosen_bytes (e.slice_at x direction y) = computed_bytes x ++ computed_bytes y

  pub vector_bytes : Vector → List ℕ
  vector_bytes (e.of_signal p) = place_bytes p
  vector_bytes (e.of_variable at k p) = at ∷ part_bytes p
  vector_bytes (e.of_constant at k p) = at ∷ part_bytes p
  vector_bytes (e.in_signal at x c) = at ∷ chosen_bytes c
  vector_bytes (e.in_variable at k c) = at ∷ chosen_bytes c
  vector_bytes (e.in_constant at k c) = at ∷ chosen_bytes c
  vector_bytes (e.character x) = []
  vector_bytes (e.enclosed_character x) = []
  vector_bytes (e.Vector.literal at xs) = at ∷ []
  vector_bytes (e.Vector.inverse x) = vector_bytes x
  vector_bytes (e.Vector.binary at op x y) = at ∷ (vector_bytes x ++ vector_bytes y)
  vector_bytes (e.with_integer at op x n) = at ∷ (vector_bytes x ++ static_bytes n)
  vector_bytes (e.integer_with at op n x) = at ∷ (static_bytes n ++ vector_bytes x)
  vector_bytes (e.with_computed at op x n) = at ∷ (vector_bytes x ++ computed_bytes n)
  vector_bytes (e.computed_with at op n x) = at ∷ (computed_bytes n ++ vector_bytes x)
  vector_bytes (e.Vector.encoded at n size) = at ∷ (static_bytes n ++ static_bytes size)
  vector_bytes (e.computed_encoded at n size) = at ∷ (computed_bytes n ++ static_bytes size)
  vector_bytes (e.counted at op x n) = at ∷ (vector_bytes x ++ static_bytes n)
  vector_bytes (e.shifted at by x n) = at ∷ (vector_bytes x ++ computed_bytes n)
  vector_bytes (e.aggregate at r es) = at ∷ (if_any_bytes range_bytes r ++ elements_bytes es)
  vector_bytes (e.sized at r x) = at ∷ (range_bytes r ++ vector_bytes x)

  pub elements_bytes : Elements → List ℕ
  elements_bytes e.no_elements = []
  elements_bytes (e.next x es) = vector_bytes x ++ elements_bytes es
  elements_bytes (e.chosen is x es) = flat_map index_bytes is ++ (vector_bytes x ++ elements_bytes es)
  elements_bytes (e.Elements.others x) = vector_bytes x

abbrev pub value_bytes : Value → List ℕ
value_bytes (e.Value.elements x) = vector_bytes x
value_bytes (e.Value.computed x) = computed_bytes x
value_bytes (e.static_truth t) = static_test_bytes t
value_bytes _ = []

abbrev pub test_bytes : Test → List ℕ
test_bytes (e.holds x) = vector_bytes x
test_bytes (e.Test.fixed t) = static_test_bytes t
test_bytes (e.alike at x y) = at ∷ (value_bytes x ++ value_bytes y)
test_bytes (e.unlike at x y) = at ∷ (value_bytes x ++ value_bytes y)
test_bytes (e.Test.compared at op x y) = at ∷ (vector_bytes x ++ vector_bytes y)
test_bytes (e.compared_to at op x n) = at ∷ (vector_bytes x ++ static_bytes n)
test_bytes (e.compared_with at op n x) = at ∷ (static_bytes n ++ vector_bytes x)
test_bytes (e.compared_to_computed at op x n) = at ∷ (vector_bytes x ++ computed_bytes n)
test_bytes (e.compared_with_computed at op n x) = at ∷ (computed_bytes n ++ vector_bytes x)
test_bytes (e.computed_compared at op x y) = at ∷ (computed_bytes x ++ computed_bytes y)
test_bytes (e.edge kind p) = place_bytes p
test_bytes (e.event p) = place_bytes p
test_bytes (e.Test.negated t) = test_bytes t
test_bytes (e.Test.both op t r) = test_bytes t ++ test_bytes r

-- ---- sequential statements

abbrev pub given_bytes : s.Given → List ℕ
given_bytes (s.single x) = value_bytes x
given_bytes (s.filled x) = vector_bytes x

abbrev pub choice_bytes : s.Choice → List ℕ
choice_bytes (s.numbers i) = index_bytes i
choice_bytes _ = []

abbrev mutual
  pub statement_bytes : s.Statement → List ℕ
  statement_bytes s.null_of = []
  statement_bytes (s.assign p g) = place_bytes p ++ given_bytes g
  statement_bytes (s.set at k p g) = at ∷ (part_bytes p ++ given_bytes g)
  statement_bytes (s.assign_in at x c g) = at ∷ (chosen_bytes c ++ given_bytes g)
  statement_bytes (s.set_in at k c g) = at ∷ (chosen_bytes c ++ given_bytes g)
  statement_bytes (s.if_of at bs) = at ∷ branches_bytes bs
  statement_bytes (s.case_of at x alts) = at ∷ (value_bytes x ++ alternatives_bytes alts)
  statement_bytes (s.for_of at r body) = at ∷ (range_bytes r ++ statements_bytes body)

  pub statements_bytes : s.Statements → List ℕ
  statements_bytes s.done = []
  statements_bytes (s.step x xs) = statement_bytes x ++ statements_bytes xs

  pub branches_bytes : s.Branches → List ℕ
  branches_bytes s.no_else = []
  branches_bytes (s.otherwise body) = statements_bytes body
  branches_bytes (s.branch t body bs) = test_bytes t ++ (statements_bytes body ++ branches_bytes bs)

  pub alternatives_bytes : s.Alternatives → List ℕ
  alternatives_bytes (s.others body) = statements_bytes body
  alternatives_bytes (s.complete cs body) = flat_map choice_bytes cs ++ statements_bytes body
  alternatives_bytes (s.alternative cs body alts) =
      flat_map choice_bytes cs ++ (statements_bytes body ++ alternatives_bytes alts)

-- ---- declarations

abbrev pub subtype_bytes : u.IntegerSubtype → List ℕ
subtype_bytes s = if_any_bytes (λ (r : ℕ × Range). r.0 ∷ range_bytes r.1) s.range

abbrev pub form_bytes : Form → List ℕ
form_bytes u.element = []
form_bytes (u.vector r) = range_bytes r
form_bytes (u.enumeration count) = []
form_bytes (u.Form.number s) = subtype_bytes s
form_bytes u.boolean = []

abbrev pub fixed_bytes : Fixed → List ℕ
fixed_bytes (u.Fixed.encoded n size) = static_bytes n ++ static_bytes size
fixed_bytes (u.Fixed.given g) = given_bytes g
fixed_bytes (u.Fixed.aggregate at es) = at ∷ elements_bytes es
fixed_bytes (u.Fixed.integer n) = static_bytes n
fixed_bytes (u.Fixed.truth t) = static_test_bytes t
fixed_bytes _ = []

abbrev pub generic_type_bytes : u.GenericType → List ℕ
generic_type_bytes (u.integers s) = subtype_bytes s
generic_type_bytes u.truths = []
generic_type_bytes (u.values f) = form_bytes f

abbrev pub generic_bytes : u.Generic → List ℕ
generic_bytes g = g.at ∷ (generic_type_bytes g.type ++ if_any_bytes fixed_bytes g.default)

abbrev pub object_bytes : u.Object → List ℕ
object_bytes o = o.at ∷ (form_bytes o.form ++ if_any_bytes fixed_bytes o.default)

abbrev pub port_bytes : u.Port → List ℕ
port_bytes p = object_bytes p.object

abbrev pub declaration_bytes : u.Declaration → List ℕ
declaration_bytes (u.Declaration.integer at type n) = at ∷ (subtype_bytes type ++ static_bytes n)
declaration_bytes (u.Declaration.truth at t) = at ∷ static_test_bytes t
declaration_bytes (u.Declaration.constant at f x) = at ∷ (form_bytes f ++ fixed_bytes x)
declaration_bytes (u.Declaration.signal o) = object_bytes o
declaration_bytes (u.Declaration.variable o) = object_bytes o
declaration_bytes (u.vector_subtype at r) = at ∷ range_bytes r
declaration_bytes (u.integer_subtype at s) = at ∷ subtype_bytes s

-- ---- concurrent statements

abbrev pub sensitivity_bytes : u.Sensitivity → List ℕ
sensitivity_bytes (u.listed ps) = flat_map place_bytes ps
sensitivity_bytes _ = []

abbrev pub process_bytes : u.Process → List ℕ
process_bytes p =
    p.at ∷ (flat_map declaration_bytes p.declarations ++ (sensitivity_bytes p.sensitivity ++ statements_bytes p.body))

abbrev pub instance_bytes : u.Instance → List ℕ
instance_bytes x =
    x.at ∷ (flat_map (if_any_bytes fixed_bytes) x.generics ++ flat_map (if_any_bytes place_bytes) x.ports)

abbrev mutual
  pub concurrent_bytes : u.Concurrent → List ℕ
  concurrent_bytes (u.process p) = process_bytes p
  concurrent_bytes (u.instance x) = instance_bytes x
  concurrent_bytes (u.generate_for at label r body) = at ∷ (range_bytes r ++ concurrents_bytes body)
  concurrent_bytes (u.generate_if at label t body) = at ∷ (static_test_bytes t ++ concurrents_bytes body)

  pub concurrents_bytes : u.Concurrents → List ℕ
  concurrents_bytes u.no_concurrents = []
  concurrents_bytes (u.concurrent x xs) = concurrent_bytes x ++ concurrents_bytes xs

-- ---- units

abbrev pub architecture_bytes : u.Architecture → List ℕ
architecture_bytes a = flat_map declaration_bytes a.declarations ++ concurrents_bytes a.statements

abbrev pub entity_bytes : u.Entity → List ℕ
entity_bytes x =
    x.at ∷ (flat_map generic_bytes x.generics
    ++ (flat_map port_bytes x.ports ++ if_any_bytes architecture_bytes x.architecture))

abbrev pub units_bytes : Units → List ℕ
units_bytes units = flat_map entity_bytes units
