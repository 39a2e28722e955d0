-- What names in expressions are (IEEE 1076-2008, clause 8): objects with their indexed and slice names, conversions and
-- calls of the packages' functions (9.3.4, 9.3.6), and the attribute 'event (16.2.4).
use Rattle.std.specs.Prelude.{ℕ, Bool, true, false, not, ◌&&◌, if◌then◌else◌, List, [], ◌∷◌, Option, Some, None, option_map, bytes_eq, codes}
use Rattle.vhdl_values.specs.declared.scalar.Nine.TheVariants.{One}
use Rattle.vhdl_values.specs.declared.kinds.Counted.{Counted}
use Rattle.vhdl_values.specs.declared.kinds.Counted.TheVariants.{Shift}
use Rattle.vhdl_values.specs.declared.kinds.Edge.{Edge}
use Rattle.vhdl_tree.specs.declared.operator.Direction.{Direction}
use Rattle.vhdl_tree.specs.Tree as t
use Rattle.vhdl_tree.specs.Tree.{Attribute}
use Rattle.vhdl_names_rules.specs.declared.kind.ElementKind.{ElementKind}
use Rattle.vhdl_names_rules.specs.declared.kind.ElementKind.TheVariants.{Element, LogicVector, Unsigned, OpenVector}
use Rattle.vhdl_names_rules.specs.declared.kind.ObjectType.{ObjectType}
use Rattle.vhdl_names_rules.specs.declared.kind.ObjectType.TheVariants.{Elements, Enumeration, Integers, Booleans}
use Rattle.vhdl_names_rules.specs.declared.kind.Function.{Function}
use Rattle.vhdl_names_rules.specs.declared.kind.Function.TheVariants.{EdgeCall, ByCount, ToUnsigned, ToInteger}
use Rattle.vhdl_names_rules.specs.units.Expressions as u
use Rattle.vhdl_names_rules.specs.units.Expressions.{Static, Computed, Part, Chosen, SignalPart, Signal, Vector}
use Rattle.vhdl_names_rules.specs.declared.fault.NameProblem.TheVariants.{TypeMismatch, LeftOut}
use Rattle.vhdl_names_rules.specs.Rules.{◌>>=◌, ◌>>◌, rule, given_that}
use Rattle.vhdl_names_rules.specs.Known.{is_known}
use Rattle.vhdl_names_rules.specs.Visibility as visibility
use Rattle.vhdl_names_rules.specs.Visibility.{Meaning}
use Rattle.std.specs.Option.{option_or}
use Rattle.vhdl_names_rules.specs.Operators.{Typed, integer, computed, elements, enumerated, truth, is_vector}

-- ---- parts of an object

-- what stands in parentheses after an identifier, with its types
pub data Suffix : Type 0 where
  plain : Suffix
  -- whether it is one name alone, and what is there
  arguments : (is_name : Bool) → List Typed → Suffix
  range : u.Range → Suffix
  -- bounds of which a run computes one at least
  computed_range : (left : Computed) → Direction → (right : Computed) → Suffix

-- the whole; an element of a vector (8.4); a slice of a vector, which is of its kind (8.5)
abbrev pub part : ElementKind → Suffix → Option (Part × ElementKind)
part k plain = Some (u.whole, k)
part LogicVector (arguments b (integer s ∷ [])) = Some (u.Part.element s, Element)
part Unsigned (arguments b (integer s ∷ [])) = Some (u.Part.element s, Element)
part LogicVector (range r) = Some (u.slice r, LogicVector)
part Unsigned (range r) = Some (u.slice r, Unsigned)
part _ _ = None

-- an object of an enumeration or of an integer type has no parts
abbrev pub part_of : ObjectType → Suffix → Option (Part × ObjectType)
part_of (Elements k) s = option_map (λ p. (p.0, Elements p.1)) (part k s)
part_of type plain = Some (u.whole, type)
part_of type _ = None

-- what a run chooses: an element of a vector by its index, and a slice of one by its bounds
abbrev pub chosen : ElementKind → Suffix → Option (Chosen × ElementKind)
chosen k (arguments b (computed x ∷ [])) = given_that TypeMismatch (is_vector k) (u.element_at x, Element)
chosen k (computed_range l direction r) = given_that TypeMismatch (is_vector k) (u.slice_at l direction r, k)
chosen _ _ = None

-- a part that is there before the run, or one that a run chooses
pub data AnyPart : Type 0 where
  fixed : Part → AnyPart
  free : Chosen → AnyPart

abbrev pub any_part : ElementKind → Suffix → Option (AnyPart × ElementKind)
any_part k s =
    option_or (option_map (λ p. (fixed p.0, p.1)) (part k s)) (option_map (λ p. (free p.0, p.1)) (chosen k s))

abbrev pub any_part_of : ObjectType → Suffix → Option (AnyPart × ObjectType)
any_part_of (Elements k) s = option_map (λ p. (p.0, Elements p.1)) (any_part k s)
any_part_of type plain = Some (fixed u.whole, type)
any_part_of type _ = None

-- by the byte at which its name starts
abbrev pub place_of : (at : ℕ) → Signal → Part → SignalPart
place_of at s p = record { at = at; signal = s; part = p }

abbrev pub if_plain : Suffix → Typed → Option Typed
if_plain plain t = Some t
if_plain _ t = None

-- elements of the nine values, by what they are part of
abbrev pub read_by : (AnyPart → Vector) → ElementKind → Suffix → Option Typed
read_by object k s = option_map (λ p. elements p.1 (object p.0)) (any_part k s)

abbrev pub signal_part : (at : ℕ) → Signal → AnyPart → Vector
signal_part at x (fixed p) = u.of_signal (place_of at x p)
signal_part at x (free c) = u.in_signal at x c

abbrev pub variable_part : (at : ℕ) → ℕ → AnyPart → Vector
variable_part at k (fixed p) = u.of_variable at k p
variable_part at k (free c) = u.in_variable at k c

abbrev pub constant_part : (at : ℕ) → ℕ → AnyPart → Vector
constant_part at k (fixed p) = u.of_constant at k p
constant_part at k (free c) = u.in_constant at k c

abbrev pub read_signal : (at : ℕ) → Signal → ElementKind → Suffix → Option Typed
read_signal at x k s = read_by (signal_part at x) k s

-- ---- conversions and calls

-- unsigned(x), std_logic_vector(x), std_ulogic_vector(x): of any vector
abbrev pub converted : ElementKind → Suffix → Option Typed
converted k (arguments b (elements LogicVector x ∷ [])) = Some (elements k x)
converted k (arguments b (elements Unsigned x ∷ [])) = Some (elements k x)
converted k (arguments b (elements OpenVector x ∷ [])) = Some (elements k x)
converted _ _ = None

-- no loop's parameter stands in it
abbrev pub is_static : Static → Bool
is_static (u.loop_parameter k) = false
is_static (u.Static.negated at s) = is_static s
is_static (u.absolute at s) = is_static s
is_static (u.slice_bound at b k l d r) = is_static l && is_static r
is_static (u.Static.binary at op s t) = is_static s && is_static t
is_static _ = true

-- a signal of one element, or an element of one at a static index (8.1)
abbrev pub is_static_part : Part → Bool
is_static_part u.whole = true
is_static_part (u.Part.element s) = is_static s
is_static_part (u.slice r) = false

-- the signal that an edge call or 'event asks for
abbrev pub edge_signal : Typed → Option SignalPart
edge_signal (elements Element (u.of_signal p)) = if is_static_part p.part then Some p else None
edge_signal _ = None

-- rising_edge(s), falling_edge(s): of a signal's name
abbrev pub edge_of : Edge → Suffix → Option Typed
edge_of e (arguments true (x ∷ [])) = option_map (λ p. truth (u.edge e p)) (edge_signal x)
edge_of e _ = None

-- a number by a count, which a run may compute for a shift
abbrev pub counted : (at : ℕ) → Counted → Suffix → Option Typed
counted at op (arguments b (elements Unsigned x ∷ integer n ∷ [])) = Some (elements Unsigned (u.counted at op x n))
counted at (Shift by) (arguments b (elements Unsigned x ∷ computed n ∷ [])) =
    Some (elements Unsigned (u.shifted at by x n))
counted at op _ = None

-- a size is static
abbrev pub encoding : (at : ℕ) → Suffix → Option Typed
encoding at (arguments b (integer n ∷ integer size ∷ [])) = Some (elements Unsigned (u.encoded at n size))
encoding at (arguments b (computed n ∷ integer size ∷ [])) = Some (elements Unsigned (u.computed_encoded at n size))
encoding at _ = None

-- the integer that a number is, which names a signal or a variable: else an index by it would be static (8.1), and a
-- constant of an integer type serves; of an open vector it isn't known whether it has a sign
abbrev pub number_of : (at : ℕ) → Suffix → Option Typed
number_of at (arguments b (elements Unsigned x ∷ [])) =
    given_that LeftOut (not (is_known x)) (computed (u.number_of at x))
number_of at _ = None

-- the name of the function starts at this byte
abbrev pub called : (at : ℕ) → Function → Suffix → Option Typed
called at (EdgeCall e) = edge_of e
called at (ByCount op) = counted at op
called at ToUnsigned = encoding at
called at ToInteger = number_of at

-- ---- all names

-- a boolean, by its position, 0 for false and 1 for true (5.2.2.2, 16.3)
abbrev pub known : (at : ℕ) → Static → Typed
known at s = truth (u.fixed (u.known at s))

abbrev pub position_of : Bool → ℕ
position_of b = if b then 1 else 0

-- a boolean object, by its element; the literal is no part of an edge test
abbrev pub is_true : (at : ℕ) → Vector → Typed
is_true at x = truth (u.alike at (u.Value.elements x) (u.Value.elements (u.enclosed_character One)))

abbrev pub read_object : (at : ℕ) → Signal → ObjectType → Suffix → Option Typed
read_object at x (Elements kind) s = read_signal at x kind s
read_object at x (Enumeration e count) s = if_plain s (enumerated e count (u.state_of x))
read_object at x Integers s = if_plain s (computed (u.signal_number x))
read_object at x Booleans s = if_plain s (is_true at (signal_part at x (fixed u.whole)))

abbrev pub read_variable : (at : ℕ) → ℕ → ObjectType → Suffix → Option Typed
read_variable at k (Elements kind) s = read_by (variable_part at k) kind s
read_variable at k (Enumeration e count) s = if_plain s (enumerated e count (u.state_of_variable k))
read_variable at k Integers s = if_plain s (computed (u.variable_number k))
read_variable at k Booleans s = if_plain s (is_true at (variable_part at k (fixed u.whole)))

-- what a name of this meaning is at this byte, with what follows it; types, components and labels are no values
abbrev pub denoted : (at : ℕ) → Meaning → Suffix → Option Typed
denoted at (visibility.generic k) s = if_plain s (integer (u.generic k))
denoted at (visibility.integer_constant k) s = if_plain s (integer (u.Static.constant k))
denoted at (visibility.generate_parameter k) s = if_plain s (integer (u.generate_parameter k))
denoted at (visibility.loop_parameter k) s = if_plain s (integer (u.loop_parameter k))
denoted at (visibility.boolean_generic k) s = if_plain s (known at (u.generic k))
denoted at (visibility.boolean_constant k) s = if_plain s (known at (u.Static.constant k))
denoted at (visibility.boolean_literal b) s = if_plain s (known at (u.number (position_of b)))
denoted at (visibility.port k mode type) s = read_object at (u.port k) type s
denoted at (visibility.signal k type) s = read_object at (u.Signal.signal k) type s
denoted at (visibility.variable k type) s = read_variable at k type s
denoted at (visibility.constant k kind values) s = read_by (constant_part at k) kind s
denoted at (visibility.literal e count p) s = if_plain s (enumerated e count (u.position p))
denoted at (visibility.vector_type k is_resolved) s = converted k s
denoted at (visibility.function f) s = called at f s
denoted at _ s = None

-- the attribute 'event; no other is of a value
abbrev pub attributed : Option Attribute → Typed → Option Typed
attributed None x = Some x
attributed (Some (t.of_range at)) x = None
attributed (Some (t.called a)) x = do
  rule LeftOut (bytes_eq a.text (codes "event"))
  p ← edge_signal x
  Some (truth (u.event p))
