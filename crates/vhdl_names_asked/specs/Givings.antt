-- What single steps of what is given to a target answer: an aggregate, or a value of its type.
use Rattle.std.specs.Prelude.{◌==◌, ℕ, Bool, true, false, not, ◌||◌, is_some, List, [], ◌∷◌, Option, Some, None, option_map, Result, Ok, Err}
use Rattle.vhdl_names_rules.specs.declared.kind.ElementKind.{ElementKind}
use Rattle.vhdl_names_rules.specs.declared.kind.ElementKind.TheVariants.{Element}
use Rattle.vhdl_names_rules.specs.declared.kind.ObjectType.{ObjectType}
use Rattle.vhdl_names_rules.specs.declared.kind.ObjectType.TheVariants.{Elements, Enumeration, Integers}
use Rattle.vhdl_names_rules.specs.declared.fault.NameProblem.TheVariants.{TypeMismatch, LeftOut}
use Rattle.vhdl_names_rules.specs.Types as types
use Rattle.vhdl_names_rules.specs.Types.{Typed, elements, enumerated, TypedChoice, TypedElements}
use Rattle.vhdl_names_rules.specs.Operators.{as_computed}
use Rattle.vhdl_names_rules.specs.Rules.{◌>>=◌, ◌>>◌, rule, given_that}
use Rattle.vhdl_names_rules.specs.Expressions.{fits}
use Rattle.vhdl_names_rules.specs.Aggregates.{is_named, aggregate}
use Rattle.vhdl_names_rules.specs.problems.Aggregates as aggregates
use Rattle.vhdl_names_rules.specs.problems.Broken.{Broken, ◌▸◌, unless}
use Rattle.vhdl_names_rules.specs.units.Statements.{Given, single, filled}
use Rattle.vhdl_names_rules.specs.units.Expressions as u
use Rattle.vhdl_names_rules.specs.units.Expressions.{Range}

-- that of others alone, or else all
abbrev pub is_others : TypedChoice → Bool
is_others (types.others p) = true
is_others (types.place is_local i) = false

abbrev pub are_others : List TypedChoice → Bool
are_others (c ∷ []) = is_others c
are_others _ = false

abbrev pub is_filling : TypedElements → Bool
is_filling (types.element cs at x types.no_elements) = are_others cs
is_filling _ = false

abbrev pub filling : TypedElements → Result (ℕ × Typed) TypedElements
filling (types.element (types.others p ∷ []) at x types.no_elements) = Ok (at, x)
filling es = Err es

-- of more than that: its choices are of a range that is known
abbrev pub lacks_range : Option Range → TypedElements → Bool
lacks_range (Some r) es = false
lacks_range None es = is_named es

abbrev pub as_listed : ElementKind → (at : ℕ) → Option Range → TypedElements → Option Given
as_listed k at r es = do
  rule LeftOut (is_some r || not (is_named es))
  x ← aggregate k at r es
  Some (single (u.elements x))

abbrev pub listed_breaks : ElementKind → (at : ℕ) → (is_ranged : Bool) → TypedElements → Broken
listed_breaks k at is_ranged es =
    unless LeftOut at (is_ranged || not (is_named es)) ▸ aggregates.aggregate k is_ranged es

-- one element for each of a vector
abbrev pub as_filling : Typed → Option Given
as_filling (elements Element x) = Some (filled x)
as_filling _ = None

-- the value of a type that is no aggregate
abbrev pub plain_value : ObjectType → Typed → Option Given
plain_value (Elements k) (elements j x) = given_that TypeMismatch (fits k j) (single (u.elements x))
plain_value (Enumeration e count) (enumerated d size x) = given_that TypeMismatch (e == d) (single x)
plain_value Integers x = option_map (λ j. single (u.Value.computed j)) (as_computed x)
plain_value _ _ = None
