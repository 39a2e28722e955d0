-- The types of expressions (IEEE 1076-2008, clause 9): what an expression is, given the declarations in sight; None
-- where a rule is broken. No rule comes before another.
use Rattle.std.specs.Prelude.{ℕ, ◌==◌, Bool, true, false, not, ◌&&◌, ◌||◌, is_some, List, [], ◌∷◌, Option, Some, None, option_map}
use Rattle.std.specs.Option.{option_or}
use Rattle.vhdl_lexer.specs.declared.language.Language.{Language}
use Rattle.vhdl_tree.specs.declared.operator.Sign.{Sign}
use Rattle.vhdl_tree.specs.declared.operator.Sign.TheVariants.{Plus, Minus}
use Rattle.vhdl_tree.specs.Tree as t
use Rattle.vhdl_tree.specs.Tree.{Expr, Exprs, Attribute}
use Rattle.vhdl_names_rules.specs.declared.kind.ElementKind.{ElementKind}
use Rattle.vhdl_names_rules.specs.declared.kind.ElementKind.TheVariants.{Element, LogicVector, Unsigned, OpenVector}
use Rattle.vhdl_names_rules.specs.declared.kind.ObjectType.{ObjectType}
use Rattle.vhdl_names_rules.specs.declared.kind.ObjectType.TheVariants.{Elements, Enumeration, Integers, Booleans}
use Rattle.vhdl_names_rules.specs.units.Expressions as u
use Rattle.vhdl_names_rules.specs.units.Expressions.{Static, Computed, Test}
use Rattle.vhdl_tree.specs.declared.operator.Direction.{Direction}
use Rattle.vhdl_names_rules.specs.units.Statements.{Given, single, filled}
use Rattle.vhdl_names_rules.specs.declared.fault.NameProblem.TheVariants.{TypeMismatch, LeftOut}
use Rattle.vhdl_names_rules.specs.Rules.{◌>>=◌, ◌>>◌, rule, given_that, wider}
use Rattle.vhdl_names_rules.specs.Visibility as visibility
use Rattle.vhdl_names_rules.specs.Visibility.{Meaning, DeclaredRange, Declared, Sight, declaration}
use Rattle.vhdl_names_rules.specs.Literals.{number_of, nine_of, values_of_string, values_of_bits}
use Rattle.vhdl_names_rules.specs.Operators.{Typed, integer, computed, elements, enumerated, truth, interval, composite, is_vector, inverse, as_computed, raised, truths_related, operated}
use Rattle.vhdl_names_rules.specs.Types as types
use Rattle.vhdl_names_rules.specs.Types.{TypedChoice, place, TypedElements}
use Rattle.vhdl_names_rules.specs.Names.{Suffix, plain, arguments, range, computed_range, denoted, attributed}
use Rattle.vhdl_names_rules.specs.Ranges.{declared_range, range_attribute, sized_by}
use Rattle.vhdl_names_rules.specs.Local.{is_local}
use Rattle.vhdl_names_rules.specs.Aggregates.{is_named, aggregate}
use Rattle.vhdl_names_rules.specs.problems.Places.{start}

abbrev pub as_integer : Typed → Option Static
as_integer (integer s) = Some s
as_integer _ = None

-- signs and `abs` stand before integers alone (9.2.6, 9.2.8)
abbrev pub signed : (at : ℕ) → Sign → Typed → Option Typed
signed at Plus (integer s) = Some (integer s)
signed at Plus (computed x) = Some (computed x)
signed at Minus (integer s) = Some (integer (u.Static.negated at s))
signed at Minus (computed x) = Some (computed (u.Computed.negated at x))
signed at _ _ = None

abbrev pub absolute : (at : ℕ) → Typed → Option Typed
absolute at (integer s) = Some (integer (u.absolute at s))
absolute at (computed x) = Some (computed (u.magnitude at x))
absolute at _ = None

-- bounds of a slice, which a run may compute (8.5)
abbrev pub sliced : Typed → Direction → Typed → Option Suffix
sliced (integer l) direction (integer r) =
    Some (range (record { left = l; direction = direction; right = r }))
sliced x direction y = do
  l ← as_computed x
  r ← as_computed y
  Some (computed_range l direction r)

-- in parentheses a character literal is no part of an edge test
abbrev pub enclosed : Typed → Typed
enclosed (elements Element (u.character v)) = elements Element (u.enclosed_character v)
enclosed x = x

-- in parentheses an aggregate has no type, and the name of a range is none (own)
abbrev pub in_parentheses : Typed → Option Typed
in_parentheses (interval r) = None
in_parentheses (composite at es) = None
in_parentheses x = Some (enclosed x)

-- behind an operand in parentheses it isn't either: `(s) = '1'`
abbrev pub beside : Expr → Typed → Typed
beside (t.parens at e) x = enclosed x
beside (t.qualified n at es) x = enclosed x
beside _ x = x

abbrev pub is_one_name : Exprs → Bool
is_one_name (t.expr (t.named n suffix None) t.no_exprs) = true
is_one_name _ = false

-- the name of a range alone in parentheses gives a slice (8.5)
abbrev pub suffix_of : (is_name : Bool) → List Typed → Suffix
suffix_of is_name (interval r ∷ []) = range r
suffix_of is_name xs = arguments is_name xs

-- what a name is as a value, with what follows it and an attribute
abbrev pub valued : (at : ℕ) → Option Attribute → Meaning → Option DeclaredRange → Suffix → Option Typed
valued at a m r s = denoted at m s >>= λ x. attributed a (sized_by at m r x)

-- a name that starts at this byte, by its declaration, what follows it and an attribute: in the wider language also a
-- range, and a bound or the length of one
abbrev pub named : Language → (at : ℕ) → Option Attribute → Declared → Suffix → Option Typed
named language at a d s =
    option_or (wider language (range_attribute at a d s)) (valued at a d.meaning d.range s)

-- an open vector takes the kind of the vector that it is assigned to
abbrev pub fits : ElementKind → ElementKind → Bool
fits Element Element = true
fits LogicVector LogicVector = true
fits LogicVector OpenVector = true
fits Unsigned Unsigned = true
fits Unsigned OpenVector = true
fits _ _ = false

-- ---- qualified expressions (9.3.5)

-- an operand of the type of this name, whose parentheses start at the byte p: one element, a vector of its kind, or an
-- aggregate, which a type without a range leaves free
abbrev pub qualified_by : (at p : ℕ) → Meaning → Option DeclaredRange → TypedElements → Option Typed
qualified_by at p (visibility.element_type b) r (types.element [] q (elements Element x) types.no_elements) =
    in_parentheses (elements Element x)
qualified_by at p (visibility.vector_type k b) r (types.element [] q (elements j x) types.no_elements) =
    given_that TypeMismatch (fits k j) (sized_by at (visibility.vector_type k b) r (elements k x))
qualified_by at p (visibility.vector_type k b) r (types.element [] q x types.no_elements) = None
qualified_by at p (visibility.vector_type k b) r xs =
    option_map (elements k) (aggregate k p (option_map declared_range r) xs)
qualified_by at p _ r xs = None

abbrev pub qualified : (at p : ℕ) → Declared → TypedElements → Option Typed
qualified at p d es = qualified_by at p d.meaning d.range es

-- ---- choices of an aggregate's element

-- an index, or the range of a name, at this byte
abbrev pub as_index : (at : ℕ) → Typed → Option u.Index
as_index at (integer s) = Some (u.index at s)
as_index at (interval r) = Some (u.indexes at r)
as_index at _ = None

-- ---- expressions

unfoldable mutual
  pub typed : Sight → Expr → Option Typed
  -- literals (9.3.2)
  typed sight (t.integer at text) = option_map (λ n. integer (u.number n)) (number_of text)
  typed sight (t.character at c) = option_map (λ v. elements Element (u.character v)) (nine_of c)
  typed sight (t.string at text) =
      option_map (λ vs. elements OpenVector (u.Vector.literal at vs)) (values_of_string text)
  typed sight (t.bits at text) = option_map (λ vs. elements OpenVector (u.Vector.literal at vs)) (values_of_bits text)
  -- names (8), conversions and calls (9.3.4, 9.3.6)
  typed sight (t.named n suffix attribute) = do
    s ← typed_suffix sight suffix
    d ← declaration sight n.text
    named sight.language n.at attribute d s
  typed sight (t.parens at e) = typed sight e >>= in_parentheses
  -- operators (9.2)
  typed sight (t.negation at e) = typed sight e >>= inverse
  typed sight (t.absolute at e) = typed sight e >>= absolute at
  typed sight (t.power d at e) = do
    x ← typed sight d
    y ← typed sight e
    raised at x y
  typed sight (t.signed sign at e) = typed sight e >>= signed at sign
  typed sight (t.binary begins op at d e) = do
    x ← typed sight d
    y ← typed sight e
    option_or (operated sight.numbers at op x (beside d y)) (wider sight.language (truths_related op x y))
  -- aggregates (9.3.3) and qualified expressions (9.3.5)
  typed sight (t.aggregate at es) = option_map (composite at) (typed_elements sight es)
  typed sight (t.qualified n at es) = do
    xs ← typed_elements sight es
    d ← declaration sight n.text
    qualified n.at at d xs

  pub typed_suffix : Sight → t.Suffix → Option Suffix
  typed_suffix sight t.plain = Some plain
  typed_suffix sight (t.arguments es) = option_map (suffix_of (is_one_name es)) (typed_each sight es)
  typed_suffix sight (t.sliced d direction e) = do
    x ← typed sight d
    y ← typed sight e
    sliced x direction y

  pub typed_each : Sight → Exprs → Option (List Typed)
  typed_each sight t.no_exprs = Some []
  typed_each sight (t.expr e es) = do
    x ← typed sight e
    xs ← typed_each sight es
    Some (x ∷ xs)

  pub typed_elements : Sight → t.Elements → Option TypedElements
  typed_elements sight t.no_elements = Some types.no_elements
  typed_elements sight (t.element cs e es) = do
    choices ← typed_choices sight cs
    x ← typed sight e
    xs ← typed_elements sight es
    Some (types.element choices (start e) x xs)

  pub typed_choices : Sight → t.Choices → Option (List TypedChoice)
  typed_choices sight t.no_choices = Some []
  typed_choices sight (t.choice c cs) = do
    x ← typed_choice sight c
    xs ← typed_choices sight cs
    Some (x ∷ xs)

  pub typed_choice : Sight → t.Choice → Option TypedChoice
  typed_choice sight (t.chosen e) = do
    x ← typed sight e
    i ← as_index (start e) x
    Some (place (is_local sight e) i)
  typed_choice sight (t.chosen_range d direction e) = do
    x ← typed sight d
    l ← as_integer x
    y ← typed sight e
    r ← as_integer y
    let i = u.indexes (start d) (record { left = l; direction = direction; right = r })
    Some (place (is_local sight d && is_local sight e) i)
  typed_choice sight (t.otherwise at) = Some (types.others at)

-- ---- what is asked of an expression

-- a static integer: of literals, generics, integer constants and parameters
unfoldable pub static : Sight → Expr → Option Static
static sight e = typed sight e >>= as_integer

-- a range's bounds are static integers, or a name is that of a range (5.2.1)
abbrev pub as_range : Typed → Option u.Range
as_range (interval r) = Some r
as_range _ = None

unfoldable pub static_range : Sight → t.DiscreteRange → Option u.Range
static_range sight (t.bounds r) = do
  left ← static sight r.left
  right ← static sight r.right
  Some (record { left = left; direction = r.direction; right = right })
static_range sight (t.range_named n) = typed sight (t.named n.identifier n.suffix n.attribute) >>= as_range

-- a condition is a truth, or one element (9.2.9)
abbrev pub as_test : Typed → Option Test
as_test (truth t) = Some t
as_test (elements Element x) = Some (u.holds x)
as_test _ = None

unfoldable pub condition : Sight → Expr → Option Test
condition sight e = typed sight e >>= as_test

-- a generate's condition is over static integers alone
abbrev pub as_static_test : Typed → Option u.StaticTest
as_static_test (truth (u.fixed t)) = Some t
as_static_test _ = None

-- ---- values of a type

-- of others alone
abbrev pub filling : TypedElements → Option Typed
filling (types.element (types.others p ∷ []) at x types.no_elements) = Some x
filling _ = None

-- (others => e): one element for each of a vector (9.3.3)
abbrev pub as_filled : ObjectType → Typed → Option Given
as_filled (Elements k) (elements Element x) = given_that TypeMismatch (is_vector k) (filled x)
as_filled _ _ = None

-- where the range of its indexes isn't known, its elements are listed: what a run chooses has the direction of its own
-- bounds (own)
abbrev pub as_aggregate : ElementKind → (at : ℕ) → Option u.Range → TypedElements → Option Given
as_aggregate k at r es = do
  rule TypeMismatch (is_vector k)
  rule LeftOut (is_some r || not (is_named es))
  x ← aggregate k at r es
  Some (single (u.elements x))

-- an aggregate that is given to what has this range of indexes, where that is known; of others alone it needs none
abbrev pub as_composite : ObjectType → (at : ℕ) → Option u.Range → TypedElements → Option Given
as_composite (Elements k) at r es = by (filling es)
  where
    by : Option Typed → Option Given
    by (Some x) = as_filled (Elements k) x
    by None = as_aggregate k at r es
as_composite type at r es = None

abbrev pub as_value : ObjectType → Option u.Range → Typed → Option Given
as_value (Elements k) r (elements j x) = given_that TypeMismatch (fits k j) (single (u.elements x))
as_value (Enumeration e count) r (enumerated d size x) = given_that TypeMismatch (e == d) (single x)
as_value type r (composite at es) = as_composite type at r es
as_value Integers r x = option_map (λ j. single (u.Value.computed j)) (as_computed x)
as_value _ r _ = None

-- what is given to what is of this type, with this range of indexes if it has one
unfoldable pub value_given : Sight → ObjectType → Option u.Range → t.Value → Option Given
value_given sight type r (t.single e) = typed sight e >>= as_value type r
value_given sight type r (t.others at e) = typed sight e >>= as_filled type

-- ---- what statements assign

-- a value; or to a boolean a truth that a run decides, where the value is none before (5.2.2.2)
pub data Assigned : Type 0 where
  given : Given → Assigned
  truth_of : Test → Assigned

abbrev pub as_boolean : Typed → Option Assigned
as_boolean (truth (u.fixed t)) = Some (given (single (u.static_truth t)))
as_boolean (truth t) = Some (truth_of t)
as_boolean _ = None

-- what is assigned to a target of this type
unfoldable pub value_assigned : Sight → ObjectType → Option u.Range → t.Value → Option Assigned
value_assigned sight Booleans r (t.single e) = typed sight e >>= as_boolean
value_assigned sight type r v = option_map given (value_given sight type r v)
