-- The elements of an aggregate without a type in a `Vec`, as contracts see them.
use Rattle.std.proofs.Common.{◌≡◌, ℕ, map, Vec, Global, refl, ap, ◌∙◌}
use mathlib.Core.Former.{Count}
use Rattle.vhdl_names_trees.specs.declared.typed.Typed.TheVariants as t
use Rattle.vhdl_names_trees.specs.declared.typed.Typed.TheBlock.{Row_of-TypedElement, end_of-TypedElement, more_of-TypedElement, items-the_row-TypedElement, hidden-the_row-TypedElement-0, items_hidden-the_row-TypedElement-0}
use Rattle.vhdl_names_trees.specs.declared.typed.TypedElement.{TypedElement}
use Rattle.vhdl_names_rules.specs.Types as types
use Rattle.vhdl_names_trees.specs.views.Expressions.{choice_view, typed_view, elements_row, typed_elements_view}

elements_rows : (n : Count) (row : Row_of-TypedElement n) → elements_row row ≡ typed_elements_view (items-the_row-TypedElement n row)
elements_rows n end_of-TypedElement = refl
elements_rows n (more_of-TypedElement choices at x rest) = ap (types.element (map choice_view choices.items) at (typed_view x)) (elements_rows _ rest)

pub view_composite : (at : ℕ) (elements : Vec TypedElement Global) → typed_view (t.Composite at elements) ≡ types.composite at (typed_elements_view elements.items)
view_composite at elements =
    ap (types.composite at) (elements_rows _ (hidden-the_row-TypedElement-0 elements) ∙ ap typed_elements_view (items_hidden-the_row-TypedElement-0 elements))
