-- What single steps of an aggregate's analysis answer.
use Rattle.std.specs.Prelude.{ℕ, Bool, true, false, not, ◌&&◌, ◌||◌, List, [], ◌∷◌, map, Option, Some, None, option_map}
use Rattle.std.specs.List.{list_all}
use Rattle.vhdl_names_rules.specs.declared.kind.ElementKind.{ElementKind}
use Rattle.vhdl_names_rules.specs.declared.fault.NameProblem.TheVariants.{WrongKind}
use Rattle.vhdl_names_trees.specs.declared.typed.TypedElement.{TypedElement, out-TypedElement}
use Rattle.vhdl_names_trees.specs.declared.vector.VectorElement.{VectorElement}
use Rattle.vhdl_names_rules.specs.units.Expressions as u
use Rattle.vhdl_names_rules.specs.Types as types
use Rattle.vhdl_names_rules.specs.Types.{Typed, TypedChoice, TypedElements}
use Rattle.vhdl_names_rules.specs.Rules.{◌>>=◌, ◌>>◌, rule}
use Rattle.vhdl_names_rules.specs.Aggregates.{listed_value, element_value, indexes_of}
use Rattle.vhdl_names_trees.specs.views.Expressions.{choice_view, typed_view}
use Rattle.vhdl_names_trees.specs.views.Vectors.{with_element}
use Rattle.vhdl_names_rules.specs.problems.Broken.{Broken, ◌▸◌}
use Rattle.vhdl_names_rules.specs.problems.Aggregates as broken

-- an element of an aggregate, with nothing behind it
abbrev pub alone : VectorElement → u.Elements
alone x = with_element x u.no_elements

pub record OneElement : Type 0 where
  pub choices : List TypedChoice
  pub at : ℕ
  pub value : Typed

abbrev pub element_view : TypedElement → OneElement
element_view e = record {
  choices = map choice_view (out-TypedElement e).choices.items;
  at = (out-TypedElement e).at;
  value = typed_view (out-TypedElement e).value;
}

-- something, or nothing, behind an element
abbrev pub behind : (is_last : Bool) → TypedElements
behind true = types.no_elements
behind false = types.element [] 0 (types.integer (u.number 0)) types.no_elements

-- what the choices of an element break, by whether it is the last
abbrev pub choices : (is_ranged is_named is_only : Bool) → List TypedChoice → (at : ℕ) → (is_last : Bool) → Broken
choices is_ranged is_named is_only cs at is_last = broken.choices is_ranged is_named is_only cs at (behind is_last)

-- where `others` starts, if it stands alone
abbrev pub lone_others : List TypedChoice → Option ℕ
lone_others (types.others at ∷ []) = Some at
lone_others _ = None

-- ---- an element

-- whether its choices serve
abbrev pub choice_serves : (is_only : Bool) → TypedChoice → Bool
choice_serves is_only (types.others at) = false
choice_serves is_only (types.place l i) = is_only || l

abbrev pub choices_serve : (is_ranged is_named is_only is_last : Bool) → List TypedChoice → Bool
choices_serve is_ranged is_named is_only is_last (types.others at ∷ []) = is_last && is_ranged
choices_serve is_ranged is_named is_only is_last [] = not is_named
choices_serve is_ranged is_named is_only is_last cs = is_named && list_all (choice_serves is_only) cs

-- its value where its choices say
abbrev pub placed : ElementKind → List TypedChoice → Typed → Option u.Elements
placed k [] x = option_map (λ y. u.next y u.no_elements) (listed_value k x)
placed k (types.others at ∷ cs) x = option_map u.Elements.others (element_value x)
placed k (types.place l i ∷ cs) x =
    option_map (λ y. u.chosen (i ∷ indexes_of cs) y u.no_elements) (element_value x)

abbrev pub element : ElementKind → (is_ranged is_named is_only is_last : Bool) → OneElement → Option u.Elements
element k is_ranged is_named is_only is_last e = do
  rule WrongKind (choices_serve is_ranged is_named is_only is_last e.choices)
  placed k e.choices e.value

abbrev pub element_breaks : ElementKind → (is_ranged is_named is_only is_last : Bool) → OneElement → Broken
element_breaks k is_ranged is_named is_only is_last e =
    choices is_ranged is_named is_only e.choices e.at is_last ▸ broken.value k e.choices e.at e.value
