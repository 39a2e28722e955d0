-- What single steps of an aggregate without a type, and of a qualified expression, answer.
use Rattle.std.specs.Prelude.{◌≡◌, ℕ, Bool, true, false, List, [], map, Option, Some, None, Result, Ok, Err, Vec}
use Rattle.std.specs.Global.{Global}
use Rattle.vhdl_tree.specs.Tree as t
use Rattle.vhdl_names_rules.specs.declared.kind.ElementKind.{ElementKind}
use Rattle.vhdl_names_rules.specs.declared.kind.ElementKind.TheVariants.{Element}
use Rattle.vhdl_names_rules.specs.declared.fault.NameProblem.{NameProblem}
use Rattle.vhdl_names_rules.specs.declared.fault.NameProblem.TheVariants.{TypeMismatch}
use Rattle.vhdl_names_trees.specs.declared.typed.Typed.{Typed as CodeTyped}
use Rattle.vhdl_names_trees.specs.declared.typed.TypedElement.{TypedElement, out-TypedElement}
use Rattle.vhdl_names_rules.specs.Types as types
use Rattle.vhdl_names_rules.specs.Types.{Typed, elements, TypedChoice, TypedElements}
use Rattle.vhdl_names_rules.specs.Rules.{◌>>=◌, ◌>>◌, given_that}
use Rattle.vhdl_names_rules.specs.Visibility as visibility
use Rattle.vhdl_names_rules.specs.Visibility.{Sight, Meaning, DeclaredRange}
use Rattle.vhdl_names_rules.specs.Expressions as are
use Rattle.vhdl_names_rules.specs.Expressions.{in_parentheses, fits}
use Rattle.vhdl_names_rules.specs.Ranges.{sized_by}
use Rattle.vhdl_names_rules.specs.units.Expressions.{Index}
use Rattle.vhdl_names_trees.specs.views.Expressions.{typed_view, choice_view, typed_elements_view}
use Rattle.vhdl_names_rules.specs.problems.Broken.{Broken, refused, ◌▸◌, unless}
use Rattle.vhdl_names_rules.specs.problems.Expressions as broken
use Rattle.vhdl_names_rules.specs.problems.Places.{start}

-- the index, or the indexes of a range, that an expression is
abbrev pub chosen_index : Sight → t.Expr → Option Index
chosen_index sight e = are.typed sight e >>= are.as_index (start e)

pub record OneElement : Type 0 where
  pub choices : List TypedChoice
  pub at : ℕ
  pub value : Typed

abbrev pub one_element : List TypedChoice → ℕ → Typed → OneElement
one_element cs at x = record { choices = cs; at = at; value = x }

abbrev pub one_element_view : TypedElement → OneElement
one_element_view e =
    one_element (map choice_view (out-TypedElement e).choices.items) (out-TypedElement e).at
    (typed_view (out-TypedElement e).value)

abbrev pub typed_element : Sight → t.Element → Option OneElement
typed_element sight e = do
  cs ← are.typed_choices sight (t.choices_of e.choices)
  x ← are.typed sight e.value
  Some (one_element cs (start e.value) x)

abbrev pub element_breaks : Sight → t.Element → Broken
element_breaks sight e = broken.typed_choices sight (t.choices_of e.choices) ▸ broken.typed sight e.value

-- the value that stands alone without choices, or else all
abbrev pub is_sole : TypedElements → Bool
is_sole (types.element [] at x types.no_elements) = true
is_sole _ = false

abbrev pub sole_value : TypedElements → Result (ℕ × Typed) TypedElements
sole_value (types.element [] at x types.no_elements) = Ok (at, x)
sole_value es = Err es

abbrev pub sole_view : Result (ℕ × CodeTyped) (Vec TypedElement Global) → Result (ℕ × Typed) TypedElements
sole_view (Ok p) = Ok (p.0, typed_view p.1)
sole_view (Err es) = Err (typed_elements_view es.items)

-- of the type of one element
abbrev pub element_operand : Typed → Option Typed
element_operand (elements Element x) = in_parentheses (elements Element x)
element_operand _ = None

abbrev pub element_qualified : TypedElements → Option Typed
element_qualified (types.element [] q x types.no_elements) = element_operand x
element_qualified xs = None

abbrev pub element_qualified_breaks : (at : ℕ) → TypedElements → Broken
element_qualified_breaks at (types.element [] q x types.no_elements) =
    unless TypeMismatch q (broken.is_element x)
element_qualified_breaks at xs = refused TypeMismatch at

-- of a type of vectors of this kind, whose name starts at this byte
abbrev pub vector_operand : (at : ℕ) → ElementKind → Meaning → Option DeclaredRange → Typed → Option Typed
vector_operand at k m r (elements j x) = given_that TypeMismatch (fits k j) (sized_by at m r (elements k x))
vector_operand at k m r _ = None

abbrev pub is_vector_of : ElementKind → Meaning → Type 0
is_vector_of kind (visibility.vector_type k is_resolved) = kind ≡ k
is_vector_of kind _ = ⊥

abbrev pub qualified_problem : Meaning → NameProblem
qualified_problem = broken.qualified_problem
