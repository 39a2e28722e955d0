-- Which rule a subtype indication breaks first (IEEE 1076-2008, 6.3), and the value of a constant that is no integer,
-- or of a default.
use Rattle.std.specs.Prelude.{ℕ, Bool, true, false, not, if◌then◌else◌, Option, Some, None, is_none, is_some}
use Rattle.vhdl_lexer.specs.declared.language.Language.{Language}
use Rattle.vhdl_lexer.specs.declared.language.Language.TheVariants.{Profile, Wide}
use Rattle.vhdl_tree.specs.Tree as t
use Rattle.vhdl_tree.specs.Tree.{Expr}
use Rattle.vhdl_names_rules.specs.declared.kind.ElementKind.TheVariants.{Element, Unsigned}
use Rattle.vhdl_names_rules.specs.declared.kind.ObjectType.{ObjectType}
use Rattle.vhdl_names_rules.specs.declared.kind.ObjectType.TheVariants.{Elements, Integers, Booleans}
use Rattle.vhdl_names_rules.specs.declared.kind.Function.TheVariants.{ToUnsigned}
use Rattle.vhdl_names_rules.specs.declared.fault.NameProblem.{NameProblem}
use Rattle.vhdl_names_rules.specs.declared.fault.NameProblem.TheVariants.{Undeclared, WrongKind, TypeMismatch, LeftOut}
use Rattle.vhdl_names_rules.specs.units.Units.{Fixed}
use Rattle.vhdl_names_rules.specs.Visibility as visibility
use Rattle.vhdl_names_rules.specs.Visibility.{Meaning, DeclaredRange, Declared, Sight, declaration}
use Rattle.vhdl_names_rules.specs.units.Expressions.{Range}
use Rattle.vhdl_names_rules.specs.Literals.{nine_of, values_of_string, values_of_bits}
use Rattle.vhdl_names_rules.specs.Names as names
use Rattle.vhdl_names_rules.specs.Names.{Suffix}
use Rattle.vhdl_names_rules.specs.Expressions as are
use Rattle.vhdl_names_rules.specs.Subtypes as subtypes
use Rattle.vhdl_names_rules.specs.Subtypes.{TypeClass, class_of, named_value, encoded_value, filled_value, is_known_value, is_range}
use Rattle.vhdl_names_rules.specs.problems.Broken.{Broken, nothing, refused, ◌▸◌, unless, lacking, where_given, of_any}
use Rattle.vhdl_names_rules.specs.problems.Places.{start, range_start}
use Rattle.vhdl_names_rules.specs.problems.Operators.{string_problem}
use Rattle.vhdl_names_rules.specs.problems.Expressions.{meaning, no_attribute, is_vector_type, typed, typed_suffix, static_range, value_given}

-- ---- types of objects

-- a type of vectors has a range, or one stands there; no other type has one
abbrev pub marked_by : Meaning → Option DeclaredRange → Option t.Constraint → Bool
marked_by (visibility.element_type r) None None = true
marked_by (visibility.vector_type k r) None (Some (t.index_range range)) = true
marked_by (visibility.vector_type k r) (Some own) None = true
marked_by (visibility.enumeration_type e count) None None = true
marked_by _ _ _ = false

abbrev pub is_marked : Declared → Option t.Constraint → Bool
is_marked d c = marked_by d.meaning d.range c

-- a type with a range too much or too little, or of integers; a name that isn't declared yet; a name of no type
abbrev pub mark_problem : Meaning → NameProblem
mark_problem (visibility.integer_type w) = LeftOut
mark_problem visibility.boolean_type = LeftOut
mark_problem (visibility.element_type r) = LeftOut
mark_problem (visibility.vector_type k r) = LeftOut
mark_problem (visibility.enumeration_type e count) = LeftOut
mark_problem visibility.unfinished = Undeclared
mark_problem _ = WrongKind

abbrev pub constraint : Sight → t.Constraint → Broken
constraint sight (t.index_range r) = static_range sight r
constraint sight (t.value_range r) = unless LeftOut (range_start r) (is_range r) ▸ static_range sight r

-- the mark, with whether a range stands there, and then the range
abbrev pub subtype : Sight → t.Subtype → Broken
subtype sight s =
    meaning sight s.mark
    ▸ where_given (declaration sight s.mark.text)
    (λ d. unless (mark_problem d.meaning) s.mark.at (is_marked d s.constraint))
    ▸ of_any (constraint sight) s.constraint

-- integers take no range in parentheses
abbrev pub is_index_range : t.Constraint → Bool
is_index_range (t.index_range r) = true
is_index_range (t.value_range r) = false

abbrev pub integer_subtype : Sight → t.Subtype → Broken
integer_subtype sight s =
    of_any (λ c. unless LeftOut s.mark.at (not (is_index_range c)) ▸ constraint sight c) s.constraint

-- booleans take none
abbrev pub boolean_subtype : t.Subtype → Broken
boolean_subtype s = unless LeftOut s.mark.at (is_none s.constraint)

-- of a signal, port or variable: in the wider language also an integer or a boolean
abbrev pub object_by : Sight → t.Subtype → TypeClass → Broken
object_by sight s subtypes.integers = integer_subtype sight s
object_by sight s subtypes.booleans = boolean_subtype s
object_by sight s subtypes.others = subtype sight s

abbrev pub object_subtype_in : Language → Sight → t.Subtype → Broken
object_subtype_in Profile sight s = subtype sight s
object_subtype_in Wide sight s =
    meaning sight s.mark ▸ where_given (visibility.meaning sight s.mark.text) (λ m. object_by sight s (class_of m))

abbrev pub object_subtype : Sight → t.Subtype → Broken
object_subtype sight s = object_subtype_in sight.language sight s

-- ---- literals as they stand, which constants, defaults and choices ask for

abbrev pub is_element_type : ObjectType → Bool
is_element_type (Elements Element) = true
is_element_type _ = false

-- a character for one element, a string or a bit string for a vector; any other form is left out
abbrev pub literal : ObjectType → Expr → Broken
literal type (t.character at c) = unless TypeMismatch at (is_element_type type) ▸ lacking TypeMismatch at (nine_of c)
literal type (t.string at text) =
    unless TypeMismatch at (is_vector_type type) ▸ lacking (string_problem text) at (values_of_string text)
literal type (t.bits at text) = unless TypeMismatch at (is_vector_type type) ▸ lacking LeftOut at (values_of_bits text)
literal type e = refused LeftOut (start e)

-- ---- the value of a constant that is no integer, and of a default

-- a name that isn't declared yet; one of another type; one of no value; a value that is no constant is left out
abbrev pub value_problem : Meaning → NameProblem
value_problem visibility.unfinished = Undeclared
value_problem (visibility.literal e count p) = TypeMismatch
value_problem (visibility.constant k kind values) = TypeMismatch
value_problem visibility.label = WrongKind
value_problem (visibility.component k) = WrongKind
value_problem _ = LeftOut

-- the arguments of a call aren't as they should be
abbrev pub call_problem : ObjectType → Meaning → NameProblem
call_problem (Elements Unsigned) (visibility.function ToUnsigned) = TypeMismatch
call_problem _ d = value_problem d

-- a slice is left out
abbrev pub suffixed_problem : ObjectType → Meaning → Suffix → NameProblem
suffixed_problem type d names.plain = value_problem d
suffixed_problem type d (names.arguments b xs) = call_problem type d
suffixed_problem type d (names.range r) = LeftOut
suffixed_problem type d (names.computed_range l direction r) = LeftOut

-- what a name is, with what follows it
abbrev pub value_of : ObjectType → Meaning → Suffix → Option Fixed
value_of type d names.plain = named_value type d
value_of type d (names.arguments b xs) = encoded_value type d xs
value_of type d (names.range r) = None
value_of type d (names.computed_range l direction r) = None

abbrev pub fixed : Sight → ObjectType → Expr → Broken
fixed sight type (t.named n suffix a) =
    meaning sight n ▸ typed_suffix sight suffix ▸ no_attribute a
    ▸ where_given (visibility.meaning sight n.text) (λ d. where_given (are.typed_suffix sight suffix) (λ s.
    lacking (suffixed_problem type d s) n.at (value_of type d s)))
fixed sight type e = literal type e

abbrev pub is_character : Expr → Bool
is_character (t.character at c) = true
is_character _ = false

-- of (others => e), e is a character literal, and the type is of vectors
abbrev pub plain_value : Sight → ObjectType → t.Value → Broken
plain_value sight type (t.single e) = fixed sight type e
plain_value sight type (t.others at e) =
    unless LeftOut (start e) (is_character e) ▸ unless TypeMismatch at (is_vector_type type)
    ▸ lacking TypeMismatch (start e) (filled_value type e)

-- ---- any value that names no signal and no variable, in the wider language

abbrev pub value_start : t.Value → ℕ
value_start (t.single e) = start e
value_start (t.others at e) = start e

abbrev pub known_value : Sight → ObjectType → Option Range → t.Value → Broken
known_value sight type r v =
    value_given sight type r v
    ▸ where_given (are.value_given sight type r v) (λ g. unless LeftOut (value_start v) (is_known_value g))

abbrev pub fixed_value_in : Language → Sight → ObjectType → Option Range → t.Value → Broken
fixed_value_in Profile sight type r v = plain_value sight type v
fixed_value_in Wide sight type r v =
    if is_some (subtypes.plain_value sight type v) then nothing else known_value sight type r v

-- an integer or a boolean, which is one expression
abbrev pub static_value : Sight → ObjectType → t.Value → Broken
static_value sight type (t.others at e) = refused TypeMismatch at
static_value sight type (t.single e) =
    typed sight e
    ▸ where_given (are.typed sight e) (λ x. lacking TypeMismatch (start e) (subtypes.static_value type x))

abbrev pub fixed_value : Sight → ObjectType → Option Range → t.Value → Broken
fixed_value sight Integers r v = static_value sight Integers v
fixed_value sight Booleans r v = static_value sight Booleans v
fixed_value sight type r v = fixed_value_in sight.language sight type r v
