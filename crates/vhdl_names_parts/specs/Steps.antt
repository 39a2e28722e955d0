-- What single steps of the code answer.
use Rattle.vhdl_names_rules.specs.units.Expressions as u
use Rattle.std.specs.Prelude.{ℕ, Bool, true, false, List, [], ◌∷◌, Option, Some, None, option_map}
use Rattle.vhdl_values.specs.declared.kinds.Edge.{Edge}
use Rattle.vhdl_names_rules.specs.declared.kind.ElementKind.{ElementKind}
use Rattle.vhdl_names_rules.specs.declared.kind.ElementKind.TheVariants.{Element, LogicVector, Unsigned, OpenVector}
use Rattle.vhdl_values.specs.declared.kinds.Counted.{Counted}
use Rattle.vhdl_names_rules.specs.Rules.{given_that}
use Rattle.vhdl_names_rules.specs.Names.{AnyPart, fixed, free, edge_signal}
use Rattle.vhdl_names_rules.specs.Operators.{Typed, integer, computed, elements, truth, is_vector}
use Rattle.vhdl_names_numbers.specs.Calls.{counted_by, encoded_by}
use Rattle.vhdl_names_rules.specs.declared.fault.NameProblem.{NameProblem}
use Rattle.vhdl_names_rules.specs.declared.fault.NameProblem.TheVariants.{TypeMismatch}
use Rattle.vhdl_names_rules.specs.problems.Operators.{edge_problem}
use Rattle.vhdl_names_rules.specs.units.Expressions.{Vector}

-- the one element of a list
abbrev pub sole : {A : Type 0} → List A → Option A
sole (x ∷ []) = Some x
sole _ = None

-- the two elements of a list
abbrev pub two : {A : Type 0} → List A → Option (A × A)
two (x ∷ y ∷ []) = Some (x, y)
two _ = None

-- the element of a vector at an index
abbrev pub indexed : ElementKind → Option Typed → Option (AnyPart × ElementKind)
indexed k (Some (integer s)) = given_that TypeMismatch (is_vector k) (fixed (u.Part.element s), Element)
indexed k (Some (computed x)) = given_that TypeMismatch (is_vector k) (free (u.element_at x), Element)
indexed _ _ = None

-- a vector as one of another kind
abbrev pub conversion : ElementKind → Option Typed → Option Typed
conversion k (Some (elements LogicVector x)) = Some (elements k x)
conversion k (Some (elements Unsigned x)) = Some (elements k x)
conversion k (Some (elements OpenVector x)) = Some (elements k x)
conversion _ _ = None

-- a number and a count, and a number and a size
abbrev pub counting : (at : ℕ) → Counted → Option (Typed × Typed) → Option Typed
counting at op None = None
counting at op (Some p) = counted_by at op p.0 p.1

abbrev pub encoding : (at : ℕ) → Option (Typed × Typed) → Option Typed
encoding at None = None
encoding at (Some p) = encoded_by at p.0 p.1

abbrev pub is_signal : Vector → Bool
is_signal (u.of_signal p) = true
is_signal _ = false

-- an edge of a signal
abbrev pub edge_by : Edge → Option Typed → Option Typed
edge_by e (Some x) = option_map (λ p. truth (u.edge e p)) (edge_signal x)
edge_by e None = None

-- why it isn't given
abbrev pub edge_call_problem : Option Typed → NameProblem
edge_call_problem (Some x) = edge_problem x
edge_call_problem None = TypeMismatch
