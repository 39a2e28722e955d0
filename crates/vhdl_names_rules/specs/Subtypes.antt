-- Subtype indications (IEEE 1076-2008, 6.3), and the values of constants and defaults.
use Rattle.std.specs.Prelude.{ℕ, ◌==◌, Bool, true, false, List, [], ◌∷◌, Option, Some, None, option_map, is_some, is_none}
use Rattle.std.specs.Option.{option_or}
use Rattle.vhdl_values.specs.declared.scalar.Nine.{Nine}
use Rattle.vhdl_tree.specs.Tree as t
use Rattle.vhdl_tree.specs.declared.operator.Direction.{Direction}
use Rattle.vhdl_tree.specs.Tree.{Ident, Expr}
use Rattle.vhdl_names_rules.specs.declared.kind.ElementKind.{ElementKind}
use Rattle.vhdl_names_rules.specs.declared.kind.ElementKind.TheVariants.{Element, LogicVector, Unsigned}
use Rattle.vhdl_names_rules.specs.declared.kind.ObjectType.{ObjectType}
use Rattle.vhdl_names_rules.specs.declared.kind.ObjectType.TheVariants.{Elements, Enumeration, Integers, Booleans}
use Rattle.vhdl_names_rules.specs.declared.kind.Function.TheVariants.{ToUnsigned}
use Rattle.vhdl_names_rules.specs.units.Expressions as e
use Rattle.vhdl_names_rules.specs.units.Expressions.{Range}
use Rattle.vhdl_names_rules.specs.units.Statements.{Given, single, filled}
use Rattle.vhdl_names_rules.specs.units.Units as u
use Rattle.vhdl_names_rules.specs.units.Units.{Form, Fixed, IntegerSubtype, Object}
use Rattle.vhdl_names_rules.specs.declared.fault.NameProblem.TheVariants.{TypeMismatch, LeftOut}
use Rattle.vhdl_names_rules.specs.Rules.{◌>>=◌, ◌>>◌, rule, if_any, given_that, wider}
use Rattle.vhdl_names_rules.specs.Visibility as visibility
use Rattle.vhdl_names_rules.specs.Visibility.{Meaning, DeclaredRange, Declared, Sight, meaning, declaration}
use Rattle.vhdl_names_rules.specs.Known.{is_known}
use Rattle.vhdl_names_rules.specs.Literals.{nine_of, values_of_string, values_of_bits}
use Rattle.vhdl_names_rules.specs.Operators.{Typed, integer, truth, is_vector}
use Rattle.vhdl_names_rules.specs.Ranges.{declared_range}
use Rattle.vhdl_names_rules.specs.Expressions.{typed, typed_each, static_range, value_given}
use Rattle.vhdl_names_rules.specs.problems.Places.{range_start}

-- ---- types of objects

-- a type mark with its range: what objects of it are
pub record Subtype : Type 0 where
  pub type : ObjectType
  pub form : Form
  pub is_resolved : Bool

-- a vector type needs a range, and no other type takes one (5.3.2)
abbrev pub marked : Meaning → Option Range → Option Subtype
marked (visibility.element_type r) None = Some (record { type = Elements Element; form = u.element; is_resolved = r })
marked (visibility.vector_type k r) (Some range) =
    Some (record { type = Elements k; form = u.vector range; is_resolved = r })
marked (visibility.enumeration_type e count) None =
    Some (record { type = Enumeration e count; form = u.enumeration count; is_resolved = false })
marked _ _ = None

-- a range in parentheses behind a type's name (5.3.2), or behind `range`; a vector takes the first
abbrev pub index_range : Sight → t.Constraint → Option Range
index_range sight (t.index_range r) = static_range sight r
index_range sight (t.value_range r) = None

-- one range at most: that of the type, or that which stands there (6.3)
abbrev pub one_range : Option DeclaredRange → Option Range → Option (Option Range)
one_range None r = Some r
one_range (Some d) None = Some (Some (declared_range d))
one_range (Some d) (Some r) = None

-- the type of a signal, port or variable, or of a constant that is no integer and no boolean
unfoldable pub subtype : Sight → t.Subtype → Option Subtype
subtype sight s = do
  range ← if_any (index_range sight) s.constraint
  mark ← declaration sight s.mark.text
  only ← one_range mark.range range
  marked mark.meaning only

-- the range of a vector
abbrev pub form_range : Form → Option Range
form_range (u.vector r) = Some r
form_range _ = None

abbrev pub form_direction : Form → Option Direction
form_direction f = option_map (λ (r : Range). r.direction) (form_range f)

-- ---- integers

-- those of a type, or of a subtype with a range
abbrev pub integers_of : Declared → Option u.Integers
integers_of d = by d.meaning d.range
  where
    by : Meaning → Option DeclaredRange → Option u.Integers
    by (visibility.integer_type w) None = Some (u.of_type w)
    by (visibility.integer_type w) (Some r) = Some (u.of_range r.number)
    by _ r = None

-- behind `range` stand bounds or a range attribute, and no subtype (5.2.1)
abbrev pub is_range : t.DiscreteRange → Bool
is_range (t.bounds r) = true
is_range (t.range_named n) = is_some n.attribute

-- that range, and where it starts
abbrev pub value_range : Sight → t.Constraint → Option (ℕ × Range)
value_range sight (t.index_range r) = None
value_range sight (t.value_range r) = do
  rule LeftOut (is_range r)
  x ← static_range sight r
  Some (range_start r, x)

unfoldable pub integer_subtype : Sight → t.Subtype → Option IntegerSubtype
integer_subtype sight s = do
  range ← if_any (value_range sight) s.constraint
  mark ← declaration sight s.mark.text
  base ← integers_of mark
  Some (record { base = base; range = range })

-- the range of a subtype of integers, which a type hasn't
abbrev pub numbers_direction : Declared → IntegerSubtype → Option Direction
numbers_direction mark s = by s.range mark.range
  where
    by : Option (ℕ × Range) → Option DeclaredRange → Option Direction
    by (Some r) d = Some r.1.direction
    by None (Some d) = Some d.direction
    by None None = None

-- ---- of which class a type is

pub data TypeClass : Type 0 where
  integers : TypeClass
  booleans : TypeClass
  -- of the nine values, or of enumerations
  others : TypeClass

abbrev pub class_of : Meaning → TypeClass
class_of (visibility.integer_type w) = integers
class_of visibility.boolean_type = booleans
class_of _ = others

-- ---- signals, ports and variables, which in the wider language may be integers and booleans

abbrev pub integer_object : Sight → t.Subtype → Option Subtype
integer_object sight s = do
  x ← integer_subtype sight s
  Some (record { type = Integers; form = u.Form.number x; is_resolved = false })

-- a boolean has no range here (5.2.2.2)
abbrev pub boolean_object : t.Subtype → Option Subtype
boolean_object s = do
  rule LeftOut (is_none s.constraint)
  Some (record { type = Booleans; form = u.boolean; is_resolved = false })

abbrev pub subtype_of_class : Sight → t.Subtype → TypeClass → Option Subtype
subtype_of_class sight s integers = wider sight.language (integer_object sight s)
subtype_of_class sight s booleans = wider sight.language (boolean_object s)
subtype_of_class sight s others = subtype sight s

unfoldable pub object_subtype : Sight → t.Subtype → Option Subtype
object_subtype sight s = do
  mark ← meaning sight s.mark.text
  subtype_of_class sight s (class_of mark)

-- ---- literals as they stand, which constants, defaults and choices ask for

-- a character for one element, a string or a bit string for a vector
abbrev pub literal_values : ElementKind → Expr → Option (List Nine)
literal_values Element (t.character at c) = option_map (λ v. v ∷ []) (nine_of c)
literal_values LogicVector (t.string at text) = values_of_string text
literal_values LogicVector (t.bits at text) = values_of_bits text
literal_values Unsigned (t.string at text) = values_of_string text
literal_values Unsigned (t.bits at text) = values_of_bits text
literal_values _ _ = None

-- ---- the value of a constant that is no integer, and of a default

-- a constant of the same kind, or a literal of the same enumeration
abbrev pub named_value : ObjectType → Meaning → Option Fixed
named_value (Elements Element) (visibility.constant k Element values) = Some (u.Fixed.constant k)
named_value (Elements LogicVector) (visibility.constant k LogicVector values) = Some (u.Fixed.constant k)
named_value (Elements Unsigned) (visibility.constant k Unsigned values) = Some (u.Fixed.constant k)
named_value (Enumeration e count) (visibility.literal d size p) = given_that TypeMismatch (d == e) (u.Fixed.position p)
named_value _ _ = None

-- to_unsigned of two static integers
abbrev pub encoded_value : ObjectType → Meaning → List Typed → Option Fixed
encoded_value (Elements Unsigned) (visibility.function ToUnsigned) (integer n ∷ integer size ∷ []) =
    Some (u.Fixed.encoded n size)
encoded_value _ _ _ = None

abbrev pub literal_value : ObjectType → Expr → Option Fixed
literal_value (Elements k) e = option_map u.Fixed.literal (literal_values k e)
literal_value _ e = None

-- a name, a call of to_unsigned, or a literal; no other expression
abbrev pub fixed : Sight → ObjectType → Expr → Option Fixed
fixed sight type (t.named n t.plain None) = meaning sight n.text >>= named_value type
fixed sight type (t.named n (t.arguments es) None) = do
  mark ← meaning sight n.text
  xs ← typed_each sight es
  encoded_value type mark xs
fixed sight type e = literal_value type e

-- (others => c), c being a character literal
abbrev pub filled_value : ObjectType → Expr → Option Fixed
filled_value (Elements k) (t.character at c) = do
  rule TypeMismatch (is_vector k)
  v ← nine_of c
  Some (u.Fixed.filled v)
filled_value _ _ = None

abbrev pub plain_value : Sight → ObjectType → t.Value → Option Fixed
plain_value sight type (t.single e) = fixed sight type e
plain_value sight type (t.others at e) = filled_value type e

-- ---- any value that names no signal and no variable (9.4), in the wider language

abbrev pub is_known_value : Given → Bool
is_known_value (single (e.Value.elements x)) = is_known x
is_known_value (single (e.Value.position p)) = true
is_known_value (single x) = false
is_known_value (filled x) = is_known x

abbrev pub known_value : Sight → ObjectType → Option Range → t.Value → Option Fixed
known_value sight type r v = do
  g ← value_given sight type r v
  given_that LeftOut (is_known_value g) (u.Fixed.given g)

-- an integer, and a boolean, are static
abbrev pub static_value : ObjectType → Typed → Option Fixed
static_value Integers (integer s) = Some (u.Fixed.integer s)
static_value Booleans (truth (e.Test.fixed t)) = Some (u.Fixed.truth t)
static_value _ _ = None

abbrev pub single_value : Sight → ObjectType → t.Value → Option Fixed
single_value sight type (t.single e) = typed sight e >>= static_value type
single_value sight type (t.others at e) = None

-- of what has this type, and this range of indexes if it is a vector
unfoldable pub fixed_value : Sight → ObjectType → Option Range → t.Value → Option Fixed
fixed_value sight Integers r v = single_value sight Integers v
fixed_value sight Booleans r v = single_value sight Booleans v
fixed_value sight type r v =
    option_or (plain_value sight type v) (wider sight.language (known_value sight type r v))

-- the literal that declares a constant, if one does
abbrev pub declaring_literal : Fixed → Option (List Nine)
declaring_literal (u.Fixed.literal values) = Some values
declaring_literal _ = None

-- ---- objects of one declaration: its names, with one type and one default

abbrev pub object : Subtype → Option Fixed → Ident → Object
object s default n = record { at = n.at; name = n.text; form = s.form; is_resolved = s.is_resolved; default = default }
