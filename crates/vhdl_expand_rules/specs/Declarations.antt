-- What an instance declares: the values of its generics and constants, its ports and signals with what they start with,
-- and what its ports are associated with (IEEE 1076-2008, 6.4.2, 6.5.6, 6.5.7, 14.2 to 14.4).
use Rattle.std.specs.Prelude.{ℕ, Bool, true, false, not, ◌&&◌, ◌||◌, List, [], ◌∷◌, ◌++◌, length, map, replicate, slice_get, Option, Some, None}
use Rattle.std.specs.Prelude.{is_some, if◌then◌else◌, ℤ, pos, Ok}
use Rattle.vhdl_values.specs.declared.scalar.Nine.{Nine}
use Rattle.vhdl_values.specs.declared.scalar.Nine.TheVariants.{Zero}
use Rattle.vhdl_values.specs.Scalar.{code_of, value_of_truth}
use Rattle.vhdl_values.specs.Numbers.{digits_of}
use Rattle.vhdl_tree.specs.declared.declaration.Mode.{Mode}
use Rattle.vhdl_tree.specs.declared.declaration.Mode.TheVariants.{In, Out}
use Rattle.vhdl_names_rules.specs.units.Expressions as expressions
use Rattle.vhdl_names_rules.specs.units.Expressions.{Static, StaticTest, SignalPart}
use Rattle.vhdl_names_rules.specs.units.Units as u
use Rattle.vhdl_names_rules.specs.units.Units.{Form, Fixed, IntegerSubtype, GenericType, Generic, Port, Declaration, Entity}
use Rattle.rtl_model.specs.bodies.Body as bodies
use Rattle.rtl_model.specs.bodies.Values.{Seen, elements_of}
use Rattle.vhdl_expand_rules.specs.declared.fault.ElabProblem.TheVariants.{NoGeneric, GenericRange, Length, Index, Unassociated}
use Rattle.vhdl_expand_rules.specs.Elab.{Elab, ◌>>=◌, ◌>>◌, refused, item_or, same_length, unless}
use Rattle.vhdl_expand_rules.specs.Integers.{IntegerRange, integer_of, natural, decision, Numbers, of_type, of_range, numbers_of, integer_among}
use Rattle.vhdl_numbers.specs.TwosComplement.{signed_digits_of}
use Rattle.vhdl_expand_rules.specs.Computed.{covers}
use Rattle.vhdl_expand_rules.specs.Kinds.{ObjectKind, enumeration, integer, boolean, has_sign, range_span, number_size, size, kind_of, size_of, ranges_of, written_range}
use Rattle.vhdl_expand_rules.specs.Site.{Site, no_site, with_ranges, Constant, signal_kind, place_elements}
use Rattle.vhdl_expand_rules.specs.Expressions.{vector}
use Rattle.vhdl_expand_rules.specs.Statements.{value_given}
use Rattle.vhdl_expand_rules.specs.Tree.{Role, input, output, internal, Object, Variable}

-- ---- values of constants and defaults

-- a value is as long as what has it
abbrev pub as_long_as : (at : ℕ) → (len : ℕ) → List Nine → Elab (List Nine)
as_long_as at len vs = do
  same_length at (length vs) len
  Ok vs

-- a run that sees no signals and no variables
abbrev pub nothing_seen : Seen
nothing_seen = record { before = []; now = []; variables = [] }

abbrev pub known_values : Elab bodies.Expr → Elab (List Nine)
known_values given = do
  e ← given
  Ok (elements_of nothing_seen e)

-- a value of an enumeration is given to no elements, and no elements to an enumeration, in units that names have passed
abbrev pub elements_of_value : (at : ℕ) → (len : ℕ) → bodies.Value → Elab (List Nine)
elements_of_value at len (bodies.elements e) = as_long_as at len (elements_of nothing_seen e)
elements_of_value at len _ = refused (Length 1 len) at

abbrev pub position_of_value : (at : ℕ) → bodies.Value → Elab (List ℕ)
position_of_value at (bodies.position n) = Ok (n ∷ [])
position_of_value at _ = refused Index at

unfoldable pub fixed_values : Site → (at : ℕ) → (len : ℕ) → Fixed → Elab (List Nine)
fixed_values here at len (u.Fixed.literal vs) = as_long_as at len vs
fixed_values here at len (u.Fixed.constant k) = do
  c ← item_or Index at (slice_get here.constants k)
  as_long_as at len c.values
fixed_values here at len (u.Fixed.encoded s t) = do
  n ← natural here.integers at s
  m ← size_of here.integers at t
  as_long_as at len (digits_of m n)
fixed_values here at len (u.Fixed.filled v) = Ok (replicate len v)
-- any other has the value that a run would compute, in which it sees nothing (9.4)
fixed_values here at len (u.Fixed.given g) = do
  v ← value_given here at len g
  elements_of_value at len v
-- an enumeration's literal is no vector, what is no vector is given to none, and an aggregate of this form to a generic
-- alone, in units that names have passed
fixed_values here at len _ = refused (Length 1 len) at

abbrev pub number_starts : IntegerRange → ℤ → List ℕ
number_starts r n = map code_of (signed_digits_of (number_size r) n)

-- of an enumeration, by its position, or of elements
abbrev pub given_starts : Site → (at : ℕ) → ObjectKind → Fixed → Elab (List ℕ)
given_starts here at (enumeration count) (u.Fixed.position n) = Ok (n ∷ [])
given_starts here at (enumeration count) (u.Fixed.given g) = do
  v ← value_given here at 1 g
  position_of_value at v
-- a boolean, by its element, and an integer, by its digits
given_starts here at boolean (u.Fixed.truth t) = do
  b ← decision here.integers t
  Ok (code_of (value_of_truth b) ∷ [])
given_starts here at (integer r) (u.Fixed.integer s) = do
  n ← integer_among here.integers at (of_range r) s
  Ok (number_starts r n)
given_starts here at kind f = do
  vs ← fixed_values here at (size kind) f
  Ok (map code_of vs)

-- what the elements of this kind start with: U, the first literal, the left bound, or false, without a default
-- (6.4.2.3)
unfoldable pub starts : Site → (at : ℕ) → ObjectKind → Option Fixed → Elab (List ℕ)
starts here at (integer r) None = Ok (number_starts r r.left)
starts here at boolean None = Ok (code_of Zero ∷ [])
starts here at kind None = Ok (replicate (size kind) 0)
starts here at kind (Some f) = given_starts here at kind f

-- ---- generics (6.5.6.2, 14.3.3)

abbrev pub first_of : {A : Type 0} → List (Option A) → Option A
first_of [] = None
first_of (x ∷ xs) = x

abbrev pub rest_of : {A : Type 0} → List A → List A
rest_of [] = []
rest_of (x ∷ xs) = xs

abbrev pub with_constant : Site → Constant → Site
with_constant here c = with_ranges (record here { constants = here.constants ++ c ∷ [] }) (ranges_of c.kind)

-- an integer, a boolean by its position, or a constant
abbrev pub with_generic : Site → ℤ → Site
with_generic here x =
    record here { integers = record here.integers { generics = here.integers.generics ++ x ∷ [] } }

abbrev pub position_of : Bool → ℤ
position_of false = pos 0
position_of true = pos 1

-- What is known with a generic, whose value is computed in one site and its type in its own. What is wrong with either
-- is told at this byte, where the generic is declared.
abbrev pub integer_generic : (from own : Site) → (at : ℕ) → IntegerSubtype → Static → Elab Site
integer_generic from own at type s = do
  numbers ← numbers_of own.integers at type
  x ← integer_among from.integers at numbers s
  Ok (with_generic own x)

abbrev pub boolean_generic : (from own : Site) → StaticTest → Elab Site
boolean_generic from own t = do
  b ← decision from.integers t
  Ok (with_generic own (position_of b))

-- an aggregate has the indexes of the generic
abbrev pub generic_values : (from : Site) → (at : ℕ) → ObjectKind → Fixed → Elab (List Nine)
generic_values from at kind (u.Fixed.aggregate p es) = do
  vs ← known_values (vector from (expressions.aggregate p (written_range kind) es))
  as_long_as at (size kind) vs
generic_values from at kind f = fixed_values from at (size kind) f

abbrev pub other_generic : (from own : Site) → (at : ℕ) → Form → Fixed → Elab Site
other_generic from own at form f = do
  kind ← kind_of own.integers at form
  vs ← generic_values from at kind f
  Ok (with_constant own (record { kind = kind; values = vs }))

abbrev pub valued_generic : (from own : Site) → (at : ℕ) → GenericType → Fixed → Elab Site
valued_generic from own at (u.integers type) (u.Fixed.integer s) = integer_generic from own at type s
valued_generic from own at u.truths (u.Fixed.truth t) = boolean_generic from own t
valued_generic from own at (u.values form) f = other_generic from own at form f
-- a value is of its generic's type, in units that names have passed
valued_generic from own at _ _ = refused NoGeneric at

-- A generic has the value of its actual, in the instance above, else of its default, which may name the generics before
-- it.
abbrev pub generic : (above own : Site) → Option Fixed → Generic → Elab Site
generic above own (Some actual) g = valued_generic above own g.at g.type actual
generic above own None g = do
  default ← item_or NoGeneric g.at g.default
  valued_generic own own g.at g.type default

unfoldable pub generics : (above own : Site) → List (Option Fixed) → List Generic → Elab Site
generics above own actuals [] = Ok own
generics above own actuals (g ∷ gs) = do
  here ← generic above own (first_of actuals) g
  generics above here (rest_of actuals) gs

-- ---- ports, signals and variables

unfoldable pub object : Site → Role → u.Object → Elab Object
object here role o = do
  kind ← kind_of here.integers o.at o.form
  vs ← starts here o.at kind o.default
  Ok (record {
    at = o.at;
    name = o.name;
    role = role;
    kind = kind;
    is_resolved = o.is_resolved;
    starts = vs;
    actual = None;
  })

abbrev pub role_of : Mode → Role
role_of In = input
role_of Out = output

-- what is known of an instance, and its ports and signals so far
pub record InstanceObjects : Type 0 where
  pub site : Site
  pub objects : List Object

abbrev pub with_port : InstanceObjects → Object → InstanceObjects
with_port d o = record {
  site = with_ranges (record d.site { ports = d.site.ports ++ o.kind ∷ [] }) (ranges_of o.kind);
  objects = d.objects ++ o ∷ [];
}

abbrev pub with_signal : InstanceObjects → Object → InstanceObjects
with_signal d o = record {
  site = with_ranges (record d.site { signals = d.site.signals ++ o.kind ∷ [] }) (ranges_of o.kind);
  objects = d.objects ++ o ∷ [];
}

unfoldable pub ports : InstanceObjects → List Port → Elab InstanceObjects
ports d [] = Ok d
ports d (p ∷ ps) = do
  o ← object d.site (role_of p.mode) p.object
  ports (with_port d o) ps

-- what is known of an instance where its architecture begins
unfoldable pub interface : (above : Site) → List (Option Fixed) → Entity → Elab InstanceObjects
interface above actuals unit = do
  here ← generics above no_site actuals unit.generics
  ports (record { site = here; objects = [] }) unit.ports

abbrev pub with_integer : Site → ℤ → Site
with_integer here x = record here { integers = record here.integers { constants = here.integers.constants ++ x ∷ [] } }

-- the range of a subtype, which a type of integers hasn't
abbrev pub numbers_ranges : Numbers → List IntegerRange
numbers_ranges (of_type w) = []
numbers_ranges (of_range r) = r ∷ []

-- a constant or a subtype, of an architecture or a process; subtypes are computed where they are declared, used or not
unfoldable pub declared : Site → Declaration → Elab Site
declared here (u.Declaration.integer at type s) = do
  x ← integer_of type here.integers at s
  Ok (with_integer here x)
declared here (u.Declaration.truth at t) = do
  b ← decision here.integers t
  Ok (with_integer here (position_of b))
declared here (u.Declaration.constant at form f) = do
  kind ← kind_of here.integers at form
  vs ← fixed_values here at (size kind) f
  Ok (with_constant here (record { kind = kind; values = vs }))
declared here (u.vector_subtype at r) = do
  kind ← kind_of here.integers at (u.vector r)
  Ok (with_ranges here (ranges_of kind))
declared here (u.integer_subtype at s) = do
  numbers ← numbers_of here.integers at s
  Ok (with_ranges here (numbers_ranges numbers))
-- objects are what a signal or a variable declares
declared here _ = Ok here

-- a declaration may name those before it
unfoldable pub declaration : InstanceObjects → Declaration → Elab InstanceObjects
declaration d (u.Declaration.signal o) = do
  x ← object d.site internal o
  Ok (with_signal d x)
declaration d x = do
  here ← declared d.site x
  Ok (record d { site = here })

unfoldable pub declarations : InstanceObjects → List Declaration → Elab InstanceObjects
declarations d [] = Ok d
declarations d (x ∷ xs) = do
  e ← declaration d x
  declarations e xs

unfoldable pub variable : Site → u.Object → Elab Variable
variable here o = do
  kind ← kind_of here.integers o.at o.form
  vs ← starts here o.at kind o.default
  Ok (record { name = o.name; kind = kind; starts = vs })

-- what is known in a process, and its variables so far
pub record ProcessVariables : Type 0 where
  pub site : Site
  pub variables : List Variable

-- in a process that stands here, before its declarations
abbrev pub no_variables : Site → ProcessVariables
no_variables here = record { site = record here { variables = [] }; variables = [] }

abbrev pub with_variable : ProcessVariables → Variable → ProcessVariables
with_variable d v = record {
  site = with_ranges (record d.site { variables = d.site.variables ++ v.kind ∷ [] }) (ranges_of v.kind);
  variables = d.variables ++ v ∷ [];
}

unfoldable pub process_declaration : ProcessVariables → Declaration → Elab ProcessVariables
process_declaration d (u.Declaration.variable o) = do
  v ← variable d.site o
  Ok (with_variable d v)
process_declaration d x = do
  here ← declared d.site x
  Ok (record d { site = here })

unfoldable pub process_declarations : ProcessVariables → List Declaration → Elab ProcessVariables
process_declarations d [] = Ok d
process_declarations d (x ∷ xs) = do
  e ← process_declaration d x
  process_declarations e xs

-- ---- associations

abbrev pub is_input : Role → Bool
is_input input = true
is_input output = false
is_input internal = false

-- integers flow into a range that has them and is kept in the same way (6.5.7.1, 14.3.5; own, as a conversion would be
-- no net)
abbrev pub flows_into : (from to : IntegerRange) → Bool
flows_into from to =
    covers (range_span to) (range_span from) && (if has_sign from then has_sign to else not (has_sign to))

abbrev pub may_flow : Role → (actual : Option ObjectKind) → (formal : ObjectKind) → Bool
may_flow input (Some (integer a)) (integer f) = flows_into a f
may_flow output (Some (integer a)) (integer f) = flows_into f a
may_flow _ _ _ = true

-- A port has the elements of its actual, in the instance above, which are as many. An in port without an actual needs a
-- default; that is told at this byte, where the instance's label starts.
unfoldable pub association : (above : Site) → (at : ℕ) → Port → Option SignalPart → Object → Elab Object
association above at p (Some place) o = do
  es ← place_elements above place
  same_length place.at (length es) (size o.kind)
  unless GenericRange place.at (may_flow o.role (signal_kind above place.signal) o.kind)
  Ok (record o { actual = Some es })
association above at p None o = do
  unless Unassociated at (not (is_input o.role) || is_some p.object.default)
  Ok o

unfoldable pub associations : (above : Site) → (at : ℕ) → List Port
    → List (Option SignalPart) → List Object → Elab (List Object)
associations above at (p ∷ ps) actuals (o ∷ os) = do
  x ← association above at p (first_of actuals) o
  xs ← associations above at ps (rest_of actuals) os
  Ok (x ∷ xs)
associations above at _ actuals _ = Ok []
