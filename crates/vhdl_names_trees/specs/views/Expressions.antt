-- What contracts see of what expressions are.
use Rattle.std.specs.Prelude.{List, [], ◌∷◌, map}
use Rattle.vhdl_names_rules.specs.Types as types
use Rattle.vhdl_names_rules.specs.Operators as o
use Rattle.vhdl_names_rules.specs.Names as n
use Rattle.vhdl_names_trees.specs.views.Integers.{static_view, range_view, index_view}
use Rattle.vhdl_names_trees.specs.views.Vectors.{part_view, computed_view, chosen_view, vector_view, value_view}
use Rattle.vhdl_names_trees.specs.declared.vector.AnyPart.{AnyPart}
use Rattle.vhdl_names_trees.specs.declared.vector.AnyPart.TheVariants as p
use Rattle.vhdl_names_trees.specs.views.Tests.{test_view}
use Rattle.vhdl_names_trees.specs.declared.typed.Typed.{Typed}
use Rattle.vhdl_names_trees.specs.declared.typed.Typed.TheVariants as t
use Rattle.vhdl_names_trees.specs.declared.typed.Typed.TheBlock.{Row_of-TypedElement, end_of-TypedElement, more_of-TypedElement}
use Rattle.vhdl_names_trees.specs.declared.typed.TypedElement.{TypedElement, out-TypedElement}
use Rattle.vhdl_names_trees.specs.declared.typed.TypedChoice.{TypedChoice}
use Rattle.vhdl_names_trees.specs.declared.typed.TypedChoice.TheVariants as c
use Rattle.vhdl_names_trees.specs.declared.typed.TypedSuffix.{TypedSuffix}
use Rattle.vhdl_names_trees.specs.declared.typed.TypedSuffix.TheVariants as s

abbrev pub choice_view : TypedChoice → types.TypedChoice
choice_view (c.Others at) = types.others at
choice_view (c.Place is_local i) = types.place is_local (index_view i)

abbrev mutual
  pub typed_view : Typed → o.Typed
  typed_view (t.Integer s) = o.integer (static_view s)
  typed_view (t.Computed x) = o.computed (computed_view x)
  typed_view (t.Elements kind x) = o.elements kind (vector_view x)
  typed_view (t.Enumerated number count x) = o.enumerated number count (value_view x)
  typed_view (t.Truth x) = o.truth (test_view x)
  typed_view (t.Interval r) = o.interval (range_view r.value)
  typed_view (t.Composite' at shape es) = o.composite at (elements_row es)

  pub elements_row : {m : _} → Row_of-TypedElement m → types.TypedElements
  elements_row end_of-TypedElement = types.no_elements
  elements_row (more_of-TypedElement choices at x rest) =
      types.element (map choice_view choices.items) at (typed_view x) (elements_row rest)

-- an element, with those behind it
abbrev pub with_element : TypedElement → types.TypedElements → types.TypedElements
with_element e rest =
    types.element (map choice_view (out-TypedElement e).choices.items) (out-TypedElement e).at
    (typed_view (out-TypedElement e).value) rest

abbrev pub typed_elements_view : List TypedElement → types.TypedElements
typed_elements_view [] = types.no_elements
typed_elements_view (e ∷ es) = with_element e (typed_elements_view es)

abbrev pub any_part_view : AnyPart → n.AnyPart
any_part_view (p.Static x) = n.fixed (part_view x)
any_part_view (p.Chosen c) = n.free (chosen_view c)

abbrev pub typed_suffix_view : TypedSuffix → n.Suffix
typed_suffix_view s.Plain = n.plain
typed_suffix_view (s.Arguments b xs) = n.arguments b (map typed_view xs.items)
typed_suffix_view (s.Range r) = n.range (range_view r.value)
typed_suffix_view (s.ComputedRange l direction r) = n.computed_range (computed_view l) direction (computed_view r)
