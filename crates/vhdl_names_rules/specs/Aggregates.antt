-- Aggregates of one element's values (IEEE 1076-2008, 9.3.3), in the wider language.
use Rattle.std.specs.Prelude.{ℕ, Bool, true, false, not, ◌&&◌, ◌||◌, is_some, option_map, List, [], ◌∷◌, Option, Some, None}
use Rattle.std.specs.List.{list_all}
use Rattle.vhdl_names_rules.specs.declared.kind.ElementKind.{ElementKind}
use Rattle.vhdl_names_rules.specs.declared.kind.ElementKind.TheVariants.{Element, LogicVector, Unsigned, OpenVector}
use Rattle.vhdl_names_rules.specs.declared.fault.NameProblem.TheVariants.{WrongKind, TypeMismatch}
use Rattle.vhdl_names_rules.specs.units.Expressions as u
use Rattle.vhdl_names_rules.specs.units.Expressions.{Index, Vector, Elements}
use Rattle.vhdl_names_rules.specs.Rules.{◌>>=◌, ◌>>◌, rule, given_that}
use Rattle.vhdl_names_rules.specs.Types.{Typed, elements, TypedChoice, others, place, TypedElements, no_elements, element}

-- ---- in which order elements stand (9.3.3.1, 9.3.3.3)

abbrev pub is_listed : List TypedChoice → Bool
is_listed [] = true
is_listed _ = false

abbrev pub is_others : List TypedChoice → Bool
is_others (others at ∷ []) = true
is_others _ = false

abbrev pub is_place : TypedChoice → Bool
is_place (others at) = false
is_place (place l i) = true

abbrev pub is_chosen : List TypedChoice → Bool
is_chosen [] = false
is_chosen cs = list_all is_place cs

-- of this form is each element, but the last may be for all others
abbrev pub are : (form : List TypedChoice → Bool) → TypedElements → Bool
are form no_elements = true
are form (element cs at x no_elements) = form cs || is_others cs
are form (element cs at x (element ds p y es)) = form cs && are form (element ds p y es)

-- whether the first element has choices
abbrev pub is_named : TypedElements → Bool
is_named (element cs at x es) = not (is_listed cs)
is_named no_elements = false

-- elements are listed from the left, or chosen by their indexes
abbrev pub are_arranged : TypedElements → Bool
are_arranged es = are is_listed es || are is_chosen es

abbrev pub have_others : TypedElements → Bool
have_others no_elements = false
have_others (element cs at x es) = is_others cs || have_others es

-- ---- which choices are locally static (9.3.3.3)

abbrev pub is_local : TypedChoice → Bool
is_local (others at) = true
is_local (place l i) = l

abbrev pub are_local : TypedElements → Bool
are_local no_elements = true
are_local (element cs at x es) = list_all is_local cs && are_local es

abbrev pub have_one_choice : TypedElements → Bool
have_one_choice (element (c ∷ []) at x no_elements) = true
have_one_choice _ = false

-- ---- their values

-- one element; and where elements are listed, also a vector of the aggregate's kind
abbrev pub may_be_listed : ElementKind → ElementKind → Bool
may_be_listed k Element = true
may_be_listed LogicVector LogicVector = true
may_be_listed LogicVector OpenVector = true
may_be_listed Unsigned Unsigned = true
may_be_listed Unsigned OpenVector = true
may_be_listed _ _ = false

abbrev pub listed_value : ElementKind → Typed → Option Vector
listed_value k (elements j x) = given_that TypeMismatch (may_be_listed k j) x
listed_value k _ = None

abbrev pub element_value : Typed → Option Vector
element_value (elements Element x) = Some x
element_value _ = None

abbrev pub indexes_of : List TypedChoice → List Index
indexes_of [] = []
indexes_of (others at ∷ cs) = indexes_of cs
indexes_of (place l i ∷ cs) = i ∷ indexes_of cs

-- of elements in their order
abbrev pub values_of : ElementKind → TypedElements → Option Elements
values_of k no_elements = Some u.no_elements
values_of k (element [] at x es) = do
  y ← listed_value k x
  ys ← values_of k es
  Some (u.next y ys)
values_of k (element (others p ∷ cs) at x es) = do
  y ← element_value x
  Some (u.Elements.others y)
values_of k (element (place l i ∷ cs) at x es) = do
  y ← element_value x
  ys ← values_of k es
  Some (u.chosen (i ∷ indexes_of cs) y ys)

-- ---- the whole

-- The elements of an aggregate of vectors of this kind. A choice that isn't locally static stands alone in it. What it
-- is given to has a range; without one it is free, and has no others.
abbrev pub arranged : ElementKind → (is_ranged : Bool) → TypedElements → Option Elements
arranged k is_ranged es = do
  rule WrongKind (are_arranged es)
  rule WrongKind (are_local es || have_one_choice es)
  rule TypeMismatch (is_ranged || not (have_others es))
  values_of k es

-- one that starts at this byte, with the range of its indexes
abbrev pub aggregate : ElementKind → (at : ℕ) → Option u.Range → TypedElements → Option Vector
aggregate k at r es = option_map (u.aggregate at r) (arranged k (is_some r) es)
