-- Calls that take or give integers, and what a run chooses of a vector, by what stands in their parentheses.
use Rattle.std.specs.Prelude.{ℕ, true, [], ◌∷◌, Option, Some, None}
use Rattle.vhdl_values.specs.declared.kinds.Counted.{Counted}
use Rattle.vhdl_names_rules.specs.declared.kind.ElementKind.{ElementKind}
use Rattle.vhdl_names_rules.specs.declared.kind.ElementKind.TheVariants.{Element}
use Rattle.vhdl_names_rules.specs.declared.fault.NameProblem.{NameProblem}
use Rattle.vhdl_names_rules.specs.declared.fault.NameProblem.TheVariants.{TypeMismatch}
use Rattle.vhdl_names_rules.specs.Rules.{given_that}
use Rattle.vhdl_names_rules.specs.Operators.{Typed, is_vector}
use Rattle.vhdl_names_rules.specs.Names as names
use Rattle.vhdl_names_rules.specs.Names.{arguments}
use Rattle.vhdl_names_rules.specs.problems.Operators as problems
use Rattle.vhdl_names_rules.specs.units.Expressions as u
use Rattle.vhdl_names_rules.specs.units.Expressions.{Chosen}

abbrev pub counted_by : (at : ℕ) → Counted → (number count : Typed) → Option Typed
counted_by at op x n = names.counted at op (arguments true (x ∷ n ∷ []))

abbrev pub encoded_by : (at : ℕ) → (number size : Typed) → Option Typed
encoded_by at n size = names.encoding at (arguments true (n ∷ size ∷ []))

abbrev pub number_by : (at : ℕ) → Option Typed → Option Typed
number_by at None = None
number_by at (Some x) = names.number_of at (arguments true (x ∷ []))

abbrev pub number_problem : Option Typed → NameProblem
number_problem None = TypeMismatch
number_problem (Some x) = problems.number_problem (x ∷ [])

-- of a vector of this kind, and its kind
abbrev pub chosen_by : ElementKind → Chosen → Option (Chosen × ElementKind)
chosen_by k (u.element_at x) = given_that TypeMismatch (is_vector k) (u.element_at x, Element)
chosen_by k (u.slice_at l direction r) = given_that TypeMismatch (is_vector k) (u.slice_at l direction r, k)
