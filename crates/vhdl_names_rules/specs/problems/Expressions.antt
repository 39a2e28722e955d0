-- Which rule an expression breaks first (IEEE 1076-2008, clauses 8 and 9), with the declarations in sight: its operands
-- are read one behind the other, and then what is asked of its operator or name.
use Rattle.std.specs.Prelude.{ℕ, Bool, true, false, not, ◌||◌, if◌then◌else◌, [], Option, Some, None, is_some, bytes_eq, codes}
use Rattle.vhdl_lexer.specs.declared.language.Language.{Language}
use Rattle.vhdl_lexer.specs.declared.language.Language.TheVariants.{Profile, Wide}
use Rattle.vhdl_tree.specs.declared.operator.Operator.{Operator}
use Rattle.vhdl_tree.specs.declared.operator.Operator.TheVariants.{Equal, NotEqual}
use Rattle.vhdl_tree.specs.Tree as t
use Rattle.vhdl_tree.specs.Tree.{Expr, Exprs, Ident, Attribute}
use Rattle.vhdl_names_rules.specs.declared.kind.ElementKind.{ElementKind}
use Rattle.vhdl_names_rules.specs.declared.kind.ElementKind.TheVariants.{Element}
use Rattle.vhdl_names_rules.specs.declared.kind.ObjectType.{ObjectType}
use Rattle.vhdl_names_rules.specs.declared.kind.ObjectType.TheVariants.{Elements, Booleans}
use Rattle.vhdl_names_rules.specs.declared.fault.NameProblem.{NameProblem}
use Rattle.vhdl_names_rules.specs.declared.fault.NameProblem.TheVariants.{Undeclared, WrongKind, TypeMismatch, LeftOut}
use Rattle.vhdl_names_rules.specs.Rules.{wider}
use Rattle.vhdl_names_rules.specs.units.Expressions.{Range}
use Rattle.vhdl_names_rules.specs.Visibility as visibility
use Rattle.vhdl_names_rules.specs.Visibility.{Meaning, DeclaredRange, Declared, Sight, declaration}
use Rattle.vhdl_names_rules.specs.Literals.{number_of, nine_of, values_of_string, values_of_bits}
use Rattle.std.specs.Option.{option_or}
use Rattle.vhdl_names_rules.specs.Operators.{Typed, elements, composite, is_vector, inverse, as_computed, truths_related, operated}
use Rattle.vhdl_names_rules.specs.Types as types
use Rattle.vhdl_names_rules.specs.Types.{TypedElements}
use Rattle.vhdl_names_rules.specs.Names.{Suffix, plain, denoted, edge_signal}
use Rattle.vhdl_names_rules.specs.Ranges.{Ranged, ranged, bound_of, is_reverse_range, named_range, range_attribute, sized_by}
use Rattle.vhdl_names_rules.specs.Expressions as are
use Rattle.vhdl_names_rules.specs.Expressions.{as_integer, beside, in_parentheses, fits, as_index, as_range, as_test, as_static_test, as_value, as_filled, as_boolean}
use Rattle.vhdl_names_rules.specs.problems.Broken.{Broken, nothing, refused, ◌▸◌, unless, lacking, where_given, of_any}
use Rattle.vhdl_names_rules.specs.problems.Missing.{problem_of}
use Rattle.vhdl_names_rules.specs.problems.Places.{start}
use Rattle.vhdl_names_rules.specs.problems.Aggregates as aggregates
use Rattle.vhdl_names_rules.specs.problems.Aggregates.{aggregate}
use Rattle.vhdl_names_rules.specs.problems.Operators.{string_problem, operator_problem, edge_problem, name_problem}

-- ---- names

-- a name that no declaration in sight has
abbrev pub meaning : Sight → Ident → Broken
meaning sight n = lacking (problem_of sight.language n.text) n.at (visibility.meaning sight n.text)

abbrev pub attribute_start : Attribute → ℕ
attribute_start (t.called a) = a.at
attribute_start (t.of_range at) = at

-- of a value no attribute is offered but 'event
abbrev pub is_event : Attribute → Bool
is_event (t.called a) = bytes_eq a.text (codes "event")
is_event (t.of_range at) = false

abbrev pub attribute : Option Attribute → Broken
attribute None = nothing
attribute (Some a) = unless LeftOut (attribute_start a) (is_event a)

-- and 'event is of a signal of one element, whose name stands at this byte
abbrev pub attributed : ℕ → Option Attribute → Typed → Broken
attributed at None x = nothing
attributed at (Some a) x =
    unless LeftOut (attribute_start a) (is_event a) ▸ lacking (edge_problem x) at (edge_signal x)

-- where an attribute has no place at all
abbrev pub no_attribute : Option Attribute → Broken
no_attribute a = of_any (λ i. refused LeftOut (attribute_start i)) a

-- a type, a component or a label has no value
abbrev pub is_no_value : Meaning → Bool
is_no_value (visibility.integer_type w) = true
is_no_value visibility.boolean_type = true
is_no_value (visibility.element_type r) = true
is_no_value (visibility.vector_type k r) = true
is_no_value (visibility.enumeration_type e count) = true
is_no_value (visibility.component k) = true
is_no_value visibility.label = true
is_no_value _ = false

-- an attribute of one with nothing behind its name, as unsigned'length, is told in place of the name
abbrev pub of_no_value : Meaning → Suffix → Option Attribute → Broken
of_no_value d plain a = if is_no_value d then attribute a else nothing
of_no_value d _ a = nothing

-- a name of this meaning and range at this byte, with what follows it
abbrev pub with_suffix : ℕ → Option Attribute → Meaning → Option DeclaredRange → Suffix → Broken
with_suffix at a m r s =
    of_no_value m s a ▸ lacking (name_problem m s) at (denoted at m s)
    ▸ where_given (denoted at m s) (λ x. attributed at a (sized_by at m r x))

-- ---- attributes of ranges, and ranges by name, in the wider language (16.2.2, 16.2.3, 5.2.1)

abbrev pub is_of_range : Language → Option Attribute → Bool
is_of_range Profile a = false
is_of_range Wide None = false
is_of_range Wide (Some (t.of_range at)) = true
is_of_range Wide (Some (t.called a)) = is_reverse_range a || is_some (bound_of a.text)

-- a type that has no range at all, a component and a label are told in place of the attribute
abbrev pub has_ranges : Meaning → Bool
has_ranges (visibility.integer_type w) = true
has_ranges (visibility.vector_type k r) = true
has_ranges m = not (is_no_value m)

abbrev pub range_problem : Meaning → NameProblem
range_problem visibility.unfinished = Undeclared
range_problem _ = TypeMismatch

-- what has no range, or no such attribute
abbrev pub of_ranged : ℕ → Attribute → Declared → Suffix → Option Ranged → Broken
of_ranged at a d s None =
    if has_ranges d.meaning then refused (range_problem d.meaning) at else refused LeftOut (attribute_start a)
of_ranged at a d s (Some r) = lacking LeftOut (attribute_start a) (range_attribute at (Some a) d s)

abbrev pub of_range : ℕ → Attribute → Declared → Suffix → Broken
of_range at a d s = of_ranged at a d s (ranged d s)

-- a subtype of integers with a range
abbrev pub is_range : Language → Option Attribute → Declared → Suffix → Bool
is_range language None d s = is_some (wider language (named_range None d s))
is_range language (Some a) d s = false

abbrev pub by_declaration : Language → ℕ → Option Attribute → Declared → Suffix → Broken
by_declaration language at a d s =
    if is_of_range language a then of_any (λ x. of_range at x d s) a
    else if is_range language a d s then nothing
    else with_suffix at a d.meaning d.range s

-- what a name is, by its declaration and what stands in its parentheses
abbrev pub named : Sight → Ident → Option Suffix → Option Attribute → Broken
named sight n suffix a =
    where_given (declaration sight n.text) (λ d. where_given suffix (by_declaration sight.language n.at a d))

-- ---- operands and qualified expressions

-- an aggregate is an operand of = and /= alone, beside a vector of a known type
abbrev pub is_equality : Operator → Bool
is_equality Equal = true
is_equality NotEqual = true
is_equality _ = false

abbrev pub beside_operand : (at : ℕ) → TypedElements → Typed → Broken
beside_operand at es (elements k x) = unless TypeMismatch at (is_vector k) ▸ aggregate k false es
beside_operand at es x = refused TypeMismatch at

abbrev pub operand : Operator → (other : Typed) → Typed → Broken
operand op x (composite at es) = unless TypeMismatch at (is_equality op) ▸ beside_operand at es x
operand op x y = nothing

-- a type that has no such values, and what is no type
abbrev pub qualified_problem : Meaning → NameProblem
qualified_problem (visibility.integer_type w) = LeftOut
qualified_problem visibility.boolean_type = LeftOut
qualified_problem (visibility.enumeration_type e count) = LeftOut
qualified_problem visibility.unfinished = Undeclared
qualified_problem _ = WrongKind

abbrev pub is_element : Typed → Bool
is_element (elements Element x) = true
is_element _ = false

abbrev pub fits_kind : ElementKind → Typed → Bool
fits_kind k (elements j x) = fits k j
fits_kind k _ = false

-- of a type whose name and parenthesis start at these bytes
abbrev pub qualified_by : (at p : ℕ) → Meaning → Option DeclaredRange → TypedElements → Broken
qualified_by at p (visibility.element_type b) r (types.element [] q x types.no_elements) =
    unless TypeMismatch q (is_element x)
qualified_by at p (visibility.element_type b) r xs = refused TypeMismatch p
qualified_by at p (visibility.vector_type k b) r (types.element [] q x types.no_elements) =
    unless TypeMismatch q (fits_kind k x)
qualified_by at p (visibility.vector_type k b) r xs = aggregate k (is_some r) xs
qualified_by at p m r xs = refused (qualified_problem m) at

abbrev pub qualified : (at p : ℕ) → Declared → TypedElements → Broken
qualified at p d es = qualified_by at p d.meaning d.range es

-- ---- expressions

-- a static integer is wanted of what stands at this byte
abbrev pub integer_wanted : ℕ → Option Typed → Broken
integer_wanted at o = where_given o (λ x. lacking TypeMismatch at (as_integer x))

-- and here one that a run may compute
abbrev pub computed_wanted : ℕ → Option Typed → Broken
computed_wanted at o = where_given o (λ x. lacking TypeMismatch at (as_computed x))

unfoldable mutual
  pub typed : Sight → Expr → Broken
  typed sight (t.integer at text) = lacking LeftOut at (number_of text)
  typed sight (t.character at c) = lacking TypeMismatch at (nine_of c)
  typed sight (t.string at text) = lacking (string_problem text) at (values_of_string text)
  typed sight (t.bits at text) = lacking LeftOut at (values_of_bits text)
  typed sight (t.named n suffix a) =
      meaning sight n ▸ typed_suffix sight suffix ▸ named sight n (are.typed_suffix sight suffix) a
  typed sight (t.parens at e) =
      typed sight e ▸ where_given (are.typed sight e) (λ x. lacking TypeMismatch (start e) (in_parentheses x))
  typed sight (t.negation at e) =
      typed sight e ▸ where_given (are.typed sight e) (λ x. lacking TypeMismatch at (inverse x))
  typed sight (t.absolute at e) = typed sight e ▸ computed_wanted at (are.typed sight e)
  typed sight (t.power d at e) =
      typed sight d ▸ typed sight e ▸ integer_wanted at (are.typed sight d) ▸ integer_wanted at (are.typed sight e)
  typed sight (t.signed sign at e) = typed sight e ▸ computed_wanted at (are.typed sight e)
  typed sight (t.binary begins op at d e) =
      typed sight d ▸ typed sight e
      ▸ where_given (are.typed sight d) (λ x. where_given (are.typed sight e) (λ y.
      operand op y x ▸ operand op x y
      ▸ lacking (operator_problem op x (beside d y)) at
      (option_or (operated sight.numbers at op x (beside d y)) (wider sight.language (truths_related op x y)))))
  typed sight (t.aggregate at es) = typed_elements sight es
  typed sight (t.qualified n at es) =
      meaning sight n ▸ typed_elements sight es
      ▸ where_given (declaration sight n.text)
      (λ d. where_given (are.typed_elements sight es) (qualified n.at at d))

  pub typed_suffix : Sight → t.Suffix → Broken
  typed_suffix sight t.plain = nothing
  typed_suffix sight (t.arguments es) = typed_each sight es
  typed_suffix sight (t.sliced d direction e) =
      (typed sight d ▸ computed_wanted (start d) (are.typed sight d))
      ▸ (typed sight e ▸ computed_wanted (start e) (are.typed sight e))

  pub typed_each : Sight → Exprs → Broken
  typed_each sight t.no_exprs = nothing
  typed_each sight (t.expr e es) = typed sight e ▸ typed_each sight es

  pub typed_elements : Sight → t.Elements → Broken
  typed_elements sight t.no_elements = nothing
  typed_elements sight (t.element cs e es) = typed_choices sight cs ▸ typed sight e ▸ typed_elements sight es

  pub typed_choices : Sight → t.Choices → Broken
  typed_choices sight t.no_choices = nothing
  typed_choices sight (t.choice c cs) = typed_choice sight c ▸ typed_choices sight cs

  pub typed_choice : Sight → t.Choice → Broken
  typed_choice sight (t.chosen e) =
      typed sight e ▸ where_given (are.typed sight e) (λ x. lacking TypeMismatch (start e) (as_index (start e) x))
  typed_choice sight (t.chosen_range d direction e) =
      (typed sight d ▸ integer_wanted (start d) (are.typed sight d))
      ▸ (typed sight e ▸ integer_wanted (start e) (are.typed sight e))
  typed_choice sight (t.otherwise at) = nothing

-- ---- what is asked of an expression

-- a static integer
abbrev pub static : Sight → Expr → Broken
static sight e = typed sight e ▸ integer_wanted (start e) (are.typed sight e)

-- A type without a range is left out; what is no type is no range without an attribute.
abbrev pub no_range : Meaning → NameProblem
no_range (visibility.integer_type w) = LeftOut
no_range visibility.boolean_type = LeftOut
no_range (visibility.element_type r) = LeftOut
no_range (visibility.vector_type k r) = LeftOut
no_range (visibility.enumeration_type e count) = LeftOut
no_range visibility.unfinished = Undeclared
no_range _ = WrongKind

abbrev pub subtype_range : Sight → t.Name → Broken
subtype_range sight n =
    meaning sight n.identifier ▸ typed_suffix sight n.suffix
    ▸ where_given (declaration sight n.identifier.text) (λ d. where_given (are.typed_suffix sight n.suffix) (λ s.
    lacking (no_range d.meaning) n.identifier.at (wider sight.language (named_range None d s))))

abbrev pub range_named : Sight → t.Name → Option Attribute → Broken
range_named sight n None = subtype_range sight n
range_named sight n (Some a) =
    typed sight (t.named n.identifier n.suffix (Some a))
    ▸ where_given (are.typed sight (t.named n.identifier n.suffix (Some a)))
    (λ x. lacking TypeMismatch n.identifier.at (as_range x))

abbrev pub static_range : Sight → t.DiscreteRange → Broken
static_range sight (t.bounds r) = static sight r.left ▸ static sight r.right
static_range sight (t.range_named n) = range_named sight n n.attribute

-- a condition, and that of a generate
abbrev pub condition : Sight → Expr → Broken
condition sight e = typed sight e ▸ where_given (are.typed sight e) (λ x. lacking TypeMismatch (start e) (as_test x))

abbrev pub static_condition : Sight → Expr → Broken
static_condition sight e =
    typed sight e ▸ where_given (are.typed sight e) (λ x. lacking TypeMismatch (start e) (as_static_test x))

abbrev pub is_vector_type : ObjectType → Bool
is_vector_type (Elements k) = is_vector k
is_vector_type _ = false

-- what is given to a target of this type; (others => e) is told at its parenthesis where the target is no vector
abbrev pub given : ObjectType → Option Range → (at : ℕ) → Typed → Broken
given type r at (composite p es) = aggregates.composite type p (is_some r) es
given type r at x = lacking TypeMismatch at (as_value type r x)

abbrev pub value_given : Sight → ObjectType → Option Range → t.Value → Broken
value_given sight type r (t.single e) = typed sight e ▸ where_given (are.typed sight e) (given type r (start e))
value_given sight type r (t.others at e) =
    typed sight e
    ▸ where_given (are.typed sight e)
    (λ x. unless TypeMismatch at (is_vector_type type) ▸ lacking TypeMismatch (start e) (as_filled type x))

-- and what is assigned: to a boolean a truth
abbrev pub value_assigned : Sight → ObjectType → Option Range → t.Value → Broken
value_assigned sight Booleans r (t.single e) =
    typed sight e ▸ where_given (are.typed sight e) (λ x. lacking TypeMismatch (start e) (as_boolean x))
value_assigned sight type r v = value_given sight type r v
