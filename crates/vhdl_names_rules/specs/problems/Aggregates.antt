-- Which rule an aggregate breaks first, element by element (IEEE 1076-2008, 9.3.3). Each element is given by itself.
use Rattle.std.specs.Prelude.{ℕ, Bool, true, false, not, ◌||◌, List, [], ◌∷◌, Option, Some, None}
use Rattle.vhdl_names_rules.specs.declared.kind.ElementKind.{ElementKind}
use Rattle.vhdl_names_rules.specs.declared.kind.ObjectType.{ObjectType}
use Rattle.vhdl_names_rules.specs.declared.kind.ObjectType.TheVariants.{Elements}
use Rattle.vhdl_names_rules.specs.declared.fault.NameProblem.{NameProblem}
use Rattle.vhdl_names_rules.specs.declared.fault.NameProblem.TheVariants.{WrongKind, TypeMismatch, LeftOut}
use Rattle.vhdl_names_rules.specs.units.Expressions as u
use Rattle.vhdl_names_rules.specs.Types as types
use Rattle.vhdl_names_rules.specs.Types.{Typed, elements, TypedChoice, place, TypedElements, no_elements, element}
use Rattle.vhdl_names_rules.specs.Operators.{is_vector}
pub use Rattle.vhdl_names_rules.specs.Aggregates.{is_named}
use Rattle.vhdl_names_rules.specs.Aggregates.{is_local, listed_value, element_value}
use Rattle.vhdl_names_rules.specs.Expressions.{filling, as_filled}
use Rattle.vhdl_names_rules.specs.problems.Broken.{Broken, nothing, refused, ◌▸◌, unless, lacking, any_of}

-- ---- where choices and elements start

abbrev pub choice_start : TypedChoice → ℕ
choice_start (types.others at) = at
choice_start (place is_local i) = u.index_start i

-- an element starts with its choices, else with its value
abbrev pub element_start : List TypedChoice → (at : ℕ) → ℕ
element_start [] at = at
element_start (c ∷ cs) at = choice_start c

-- ---- the choices of one element

-- others stands alone, and the rest only if what is alone is given a range
abbrev pub is_no_others : TypedChoice → Bool
is_no_others (types.others at) = false
is_no_others _ = true

abbrev pub choice : (is_only : Bool) → TypedChoice → Broken
choice is_only c =
    unless WrongKind (choice_start c) (is_no_others c) ▸ unless WrongKind (choice_start c) (is_only || is_local c)

abbrev pub is_end : TypedElements → Bool
is_end no_elements = true
is_end _ = false

-- others, which stands last and needs a range; or choices as the first element has some, or none
abbrev pub choices : (is_ranged is_named is_only : Bool) → List TypedChoice → (at : ℕ) → TypedElements → Broken
choices is_ranged is_named is_only (types.others p ∷ []) at rest =
    unless WrongKind p (is_end rest) ▸ unless TypeMismatch p is_ranged
choices is_ranged is_named is_only [] at rest = unless WrongKind at (not is_named)
choices is_ranged is_named is_only cs at rest =
    unless WrongKind (element_start cs at) is_named ▸ any_of (choice is_only) cs

-- ---- the value of one element

-- a vector is left out where it has a choice
abbrev pub value_problem : Typed → NameProblem
value_problem (elements k x) = LeftOut
value_problem _ = TypeMismatch

abbrev pub value : ElementKind → List TypedChoice → (at : ℕ) → Typed → Broken
value k [] at x = lacking TypeMismatch at (listed_value k x)
value k cs at x = lacking (value_problem x) at (element_value x)

-- ---- all elements

abbrev pub each : (is_ranged is_named is_only : Bool) → ElementKind → TypedElements → Broken
each is_ranged is_named is_only k no_elements = nothing
each is_ranged is_named is_only k (element cs at x es) =
    choices is_ranged is_named is_only cs at es ▸ value k cs at x ▸ each is_ranged is_named is_only k es

-- whether there is one element with one choice
abbrev pub is_only : TypedElements → Bool
is_only (element (c ∷ []) at x no_elements) = true
is_only _ = false

-- an aggregate of vectors of this kind, with a range or without one
abbrev pub aggregate : ElementKind → (is_ranged : Bool) → TypedElements → Broken
aggregate k is_ranged es = each is_ranged (is_named es) (is_only es) k es

-- ---- what is given to a type

abbrev pub value_start : TypedElements → ℕ
value_start no_elements = 0
value_start (element cs at x es) = at

-- one that starts here: of vectors, by its elements, or by that of others alone; its choices need a range
abbrev pub composite : ObjectType → (at : ℕ) → (is_ranged : Bool) → TypedElements → Broken
composite (Elements k) at is_ranged es = unless TypeMismatch at (is_vector k) ▸ by (filling es)
  where
    by : Option Typed → Broken
    by (Some x) = lacking TypeMismatch (value_start es) (as_filled (Elements k) x)
    by None = unless LeftOut at (is_ranged || not (is_named es)) ▸ aggregate k is_ranged es
composite type at is_ranged es = refused TypeMismatch at
