-- What the declarations in sight of a place are, among what is declared inside a unit there.
use Rattle.std.specs.Prelude.{◌≡◌, ℕ, nat_lt, nat_le, ◌&&◌, List, length, slice_get, Bool, true, Option, Some, None, option_map, IsTrue, IfSome}
use Rattle.std.specs.List.{AllByRecursion, list_all}
use Rattle.vhdl_values.specs.declared.scalar.Nine.{Nine}
use Rattle.vhdl_tree.specs.declared.declaration.Mode.{Mode}
use Rattle.vhdl_names_rules.specs.declared.kind.ElementKind.{ElementKind}
use Rattle.vhdl_names_rules.specs.declared.kind.ElementKind.TheVariants.{Element, LogicVector, Unsigned, OpenVector}
use Rattle.vhdl_names_rules.specs.declared.kind.ObjectType.{ObjectType}
use Rattle.vhdl_names_rules.specs.declared.kind.ObjectType.TheVariants.{Elements, Enumeration, Integers, Booleans}
use Rattle.vhdl_names_rules.specs.units.Units as u
use Rattle.vhdl_names_rules.specs.units.Units.{Form}
use Rattle.vhdl_names_rules.specs.Visibility as visibility
use Rattle.vhdl_names_rules.specs.Visibility.{Meaning, Declared, Sight}
use Rattle.vhdl_names_rules.specs.Operators as o
use Rattle.vhdl_names_rules.specs.Operators.{Typed}
use Rattle.vhdl_names_rules.specs.Types as types
use Rattle.vhdl_names_rules.specs.Types.{TypedChoice, TypedElements}
use Rattle.vhdl_names_rules.specs.sound.Expressions.{Inside, Shape, one, vector, state, number, shape_of, static_fits, range_fits, index_fits, computed_fits, vector_shape, value_fits, test_fits}
use Rattle.vhdl_names_rules.specs.sound.Units.{fixed_fits}

-- ---- types

abbrev pub kind_shape : ElementKind → Shape
kind_shape Element = one
kind_shape LogicVector = vector
kind_shape Unsigned = vector
kind_shape OpenVector = vector

abbrev pub type_shape : ObjectType → Shape
type_shape (Elements k) = kind_shape k
type_shape (Enumeration e count) = state count
type_shape Integers = number
type_shape Booleans = one

-- How many literals each enumeration has, by its number.
abbrev pub Counts : Type 0
Counts = List ℕ

-- the enumeration of a type has as many literals as the type says
abbrev pub IsCounted : Counts → ObjectType → Type 0
IsCounted counts (Elements k) = Unit {0}
IsCounted counts (Enumeration e count) = slice_get counts e ≡ Some count
IsCounted counts Integers = Unit {0}
IsCounted counts Booleans = Unit {0}

-- objects of this form are of this type
pub record IsForm (counts : Counts) (type : ObjectType) (form : Option Form) : Type 0 where
  pub shape : option_map shape_of form ≡ Some (type_shape type)
  pub counted : IsCounted counts type

-- ---- meanings

-- the port of a number has this mode and type
pub record IsPort (counts : Counts) (ports : List u.Port) (k : ℕ) (mode : Mode) (type : ObjectType) : Type 0 where
  pub port : u.Port
  pub at : slice_get ports k ≡ Some port
  pub mode_is : port.mode ≡ mode
  pub shape : shape_of port.object.form ≡ type_shape type
  pub counted : IsCounted counts type

-- the literal that declares a constant has its kind
abbrev pub IsLiteralOf : Inside → ElementKind → Option (List Nine) → Type 0
IsLiteralOf i kind None = Unit {0}
IsLiteralOf i kind (Some values) = IsTrue (fixed_fits i (kind_shape kind) (u.Fixed.literal values))

-- An object's number is below the count of its class, and the object of that number is of the type; an enumeration
-- has literals.
abbrev pub MeaningFits : Inside → Counts → Meaning → Type 0
MeaningFits i counts (visibility.generic k) = IsTrue (nat_lt k i.generics)
MeaningFits i counts (visibility.integer_constant k) = IsTrue (nat_lt k i.integers)
MeaningFits i counts (visibility.generate_parameter k) = IsTrue (nat_lt k i.generates)
MeaningFits i counts (visibility.loop_parameter k) = IsTrue (nat_lt k i.loops)
MeaningFits i counts (visibility.boolean_generic k) = IsTrue (nat_lt k i.generics)
MeaningFits i counts (visibility.boolean_constant k) = IsTrue (nat_lt k i.integers)
MeaningFits i counts (visibility.port k mode type) = IsPort counts i.ports k mode type
MeaningFits i counts (visibility.signal k type) = IsForm counts type (slice_get i.signals k)
MeaningFits i counts (visibility.variable k type) = IsForm counts type (slice_get i.variables k)
MeaningFits i counts (visibility.constant k kind values) =
    IsForm counts (Elements kind) (slice_get i.constants k) × IsLiteralOf i kind values
MeaningFits i counts (visibility.literal e count p) = IsTrue (nat_lt p count) × (slice_get counts e ≡ Some count)
MeaningFits i counts (visibility.vector_type kind is_resolved) = kind_shape kind ≡ vector
MeaningFits i counts (visibility.enumeration_type e count) =
    IsTrue (nat_lt 0 count && nat_le count 256) × (slice_get counts e ≡ Some count)
MeaningFits i counts _ = Unit {0}

-- and so is a range's
pub record DeclaredFits (i : Inside) (counts : Counts) (d : Declared) : Type 0 where
  pub meaning : MeaningFits i counts d.meaning
  pub range : IfSome d.range (λ r. IsTrue (nat_lt r.number i.ranges))

abbrev pub AllFit : Inside → Counts → List Declared → Type 0
AllFit i counts = AllByRecursion (DeclaredFits i counts)

-- All that is in sight of a place is declared inside.
pub record IsInside (i : Inside) (counts : Counts) (sight : Sight) : Type 0 where
  pub loops : AllFit i counts sight.loops
  pub variables : AllFit i counts sight.variables
  pub generates : AllFit i counts sight.generates
  pub region : AllFit i counts sight.region
  pub enclosing : AllFit i counts sight.enclosing
  pub packages : AllFit i counts sight.packages
  pub loop_count : length sight.loops ≡ i.loops
  pub generate_count : length sight.generates ≡ i.generates

-- ---- what an expression is

abbrev pub choice_fits : Inside → TypedChoice → Bool
choice_fits i (types.others at) = true
choice_fits i (types.place is_local x) = index_fits i x

abbrev mutual
  pub TypedFits : Inside → Counts → Typed → Type 0
  TypedFits i counts (o.integer s) = IsTrue (static_fits i s)
  TypedFits i counts (o.computed x) = IsTrue (computed_fits i x)
  TypedFits i counts (o.elements kind x) = vector_shape i x ≡ Some (kind_shape kind)
  TypedFits i counts (o.enumerated e count x) =
      IsTrue (value_fits i (state count) x) × (slice_get counts e ≡ Some count)
  TypedFits i counts (o.truth t) = IsTrue (test_fits i t)
  TypedFits i counts (o.interval r) = IsTrue (range_fits i r)
  TypedFits i counts (o.composite at es) = ElementsFit i counts es

  -- the elements of an aggregate, and the indexes that they are for
  pub ElementsFit : Inside → Counts → TypedElements → Type 0
  ElementsFit i counts types.no_elements = Unit {0}
  ElementsFit i counts (types.element cs at x es) =
      IsTrue (list_all (choice_fits i) cs) × TypedFits i counts x × ElementsFit i counts es
