-- Attributes of ranges, and ranges by name (IEEE 1076-2008, 5.2.1, 16.2.2, 16.2.3), in the wider language.
use Rattle.std.specs.Prelude.{ℕ, Bool, if◌then◌else◌, Option, Some, None, option_map, bytes_eq, codes}
use Rattle.std.specs.Option.{option_or}
use Rattle.vhdl_lexer.specs.Literals.{greatest_integer}
use Rattle.vhdl_tree.specs.declared.operator.Direction.{Direction}
use Rattle.vhdl_tree.specs.declared.operator.Direction.TheVariants.{To, Downto}
use Rattle.vhdl_tree.specs.Tree as t
use Rattle.vhdl_tree.specs.Tree.{Ident, Attribute}
use Rattle.vhdl_names_rules.specs.declared.operator.Bound.{Bound}
use Rattle.vhdl_names_rules.specs.declared.operator.Bound.TheVariants.{Left, Right, High, Low, Length}
use Rattle.vhdl_names_rules.specs.declared.operator.IntegerType.{IntegerType}
use Rattle.vhdl_names_rules.specs.declared.operator.IntegerType.TheVariants.{Integer, Natural, Positive}
use Rattle.vhdl_names_rules.specs.declared.fault.NameProblem.TheVariants.{LeftOut}
use Rattle.vhdl_names_rules.specs.units.Expressions as u
use Rattle.vhdl_names_rules.specs.units.Expressions.{Static}
use Rattle.vhdl_names_rules.specs.Rules.{◌>>=◌, ◌>>◌, rule}
use Rattle.vhdl_names_rules.specs.Visibility as visibility
use Rattle.vhdl_names_rules.specs.Visibility.{Name, Meaning, Declared, DeclaredRange}
use Rattle.vhdl_names_rules.specs.Operators.{Typed, integer, elements, interval}
use Rattle.vhdl_names_rules.specs.Names.{Suffix, plain, range}

-- ---- what has a range

pub data Ranged : Type 0 where
  -- an integer type
  of_type : IntegerType → Ranged
  -- a subtype of integers with a range
  of_integers : DeclaredRange → Ranged
  -- a vector, or a subtype of vectors with a range
  of_vector : DeclaredRange → Ranged
  -- a slice of a vector
  of_slice : DeclaredRange → u.Range → Ranged

abbrev pub whole : Meaning → Option DeclaredRange → Option Ranged
whole (visibility.integer_type w) None = Some (of_type w)
whole (visibility.integer_type w) (Some r) = Some (of_integers r)
whole m r = option_map of_vector r

-- a type has no slices
abbrev pub sliced : Meaning → Option DeclaredRange → u.Range → Option Ranged
sliced (visibility.integer_type w) r x = None
sliced (visibility.vector_type k is_resolved) r x = None
sliced m r x = option_map (λ d. of_slice d x) r

-- a name with what follows it
abbrev pub ranged : Declared → Suffix → Option Ranged
ranged d plain = whole d.meaning d.range
ranged d (range x) = sliced d.meaning d.range x
ranged d _ = None

-- ---- bounds and lengths: 'left 'right 'high 'low 'length

abbrev pub bound_of : Name → Option Bound
bound_of a =
    if bytes_eq a (codes "left") then Some Left
    else if bytes_eq a (codes "right") then Some Right
    else if bytes_eq a (codes "high") then Some High
    else if bytes_eq a (codes "low") then Some Low
    else if bytes_eq a (codes "length") then Some Length
    else None

-- (5.2.3.2, 16.3)
abbrev pub least : IntegerType → Static
least Integer = u.least_integer
least Natural = u.number 0
least Positive = u.number 1

-- integers have no length here
abbrev pub type_bound : Bound → IntegerType → Option Static
type_bound Left w = Some (least w)
type_bound Low w = Some (least w)
type_bound Right w = Some (u.number greatest_integer)
type_bound High w = Some (u.number greatest_integer)
type_bound Length w = None

abbrev pub integers_bound : Bound → DeclaredRange → Option Static
integers_bound Length r = None
integers_bound b r = Some (u.bound b r.number)

-- of what has a range, whose name starts at this byte
abbrev pub bound : (at : ℕ) → Bound → Ranged → Option Static
bound at b (of_type w) = type_bound b w
bound at b (of_integers r) = integers_bound b r
bound at b (of_vector r) = Some (u.bound b r.number)
bound at b (of_slice r x) = Some (u.slice_bound at b r.number x.left x.direction x.right)

-- a name with an attribute that is a bound or a length
abbrev pub bound_named : (at : ℕ) → Option Attribute → Declared → Suffix → Option Typed
bound_named at (Some (t.called a)) d s = do
  b ← bound_of a.text
  r ← ranged d s
  option_map integer (bound at b r)
bound_named at _ d s = None

-- ---- ranges

abbrev pub declared_range : DeclaredRange → u.Range
declared_range r =
    record { left = u.bound Left r.number; direction = r.direction; right = u.bound Right r.number }

abbrev pub opposite : Direction → Direction
opposite To = Downto
opposite Downto = To

abbrev pub reversed : u.Range → u.Range
reversed r = record { left = r.right; direction = opposite r.direction; right = r.left }

-- Neither the range of an integer type serves, nor that of a slice, whose bounds would be copied (own).
abbrev pub range_of : Ranged → Option u.Range
range_of (of_integers r) = Some (declared_range r)
range_of (of_vector r) = Some (declared_range r)
range_of _ = None

abbrev pub is_reverse_range : Ident → Bool
is_reverse_range a = bytes_eq a.text (codes "reverse_range")

-- the range that a name is: by 'range and 'reverse_range, or as an integer subtype with a range (5.2.1)
abbrev pub named_range : Option Attribute → Declared → Suffix → Option u.Range
named_range (Some (t.of_range at)) d s = ranged d s >>= range_of
named_range (Some (t.called a)) d s = do
  rule LeftOut (is_reverse_range a)
  r ← ranged d s
  option_map reversed (range_of r)
named_range None d s = ranged d s >>= of_subtype
  where
    of_subtype : Ranged → Option u.Range
    of_subtype (of_integers r) = Some (declared_range r)
    of_subtype _ = None

-- what an attribute is of what has such a range: a range, a bound or a length
abbrev pub range_attribute : (at : ℕ) → Option Attribute → Declared → Suffix → Option Typed
range_attribute at a d s = option_or (option_map interval (named_range a d s)) (bound_named at a d s)

-- ---- values of a type with a range

-- a conversion, or a qualified expression, whose type's name starts at this byte (9.3.5, 9.3.6)
abbrev pub sized_by : (at : ℕ) → Meaning → Option DeclaredRange → Typed → Typed
sized_by at (visibility.vector_type k is_resolved) (Some r) (elements j x) =
    elements j (u.sized at (declared_range r) x)
sized_by at m r x = x
