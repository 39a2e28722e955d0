-- The elements and choices in a `Vec`, as contracts see them.
use Rattle.std.proofs.Common.{◌≡◌, ℕ, map, Vec, Global, refl, sym, ap, ap₂, ◌∙◌}
use mathlib.Core.Former.{Count}
use Rattle.vhdl_tree.specs.declared.expression.Identifier.{Identifier}
use Rattle.vhdl_tree.specs.declared.expression.Expr.{Expr}
use Rattle.vhdl_tree.specs.declared.expression.Expr.TheVariants as e
use Rattle.vhdl_tree.specs.declared.expression.Choice.TheBlock.{Row_of-Element, end_of-Element, more_of-Element, items-the_row-Element, hidden-the_row-Element-1, items_hidden-the_row-Element-1, Row_of-Choice, end_of-Choice, more_of-Choice, items-the_row-Choice, items_shown-the_row-Choice-0}
use Rattle.vhdl_tree.specs.declared.expression.Choice.{Choice}
use Rattle.vhdl_tree.specs.declared.expression.Element.{Element, out-Element, roll-Element, out-roll-Element}
use Rattle.vhdl_tree.specs.Tree as t
use Rattle.vhdl_tree.specs.Tree.{element_by}
use Rattle.vhdl_tree.specs.View.{ident_view, view, elements_row, choices_row, choice_view, choices_view, element_view, elements_view}

choices_rows : (n : Count) (row : Row_of-Choice n) → choices_row row ≡ t.choices_of (map choice_view (items-the_row-Choice n row))
choices_rows n end_of-Choice = refl
choices_rows n (more_of-Choice c rest) = ap (t.choice (choice_view c)) (choices_rows _ rest)

elements_rows : (n : Count) (row : Row_of-Element n) → elements_row row ≡ t.elements_of (map element_view (items-the_row-Element n row))
elements_rows n end_of-Element = refl
elements_rows n (more_of-Element shape choices value rest) =
    ap₂ (λ cs more. t.element cs (view value) more) (choices_rows _ choices ∙ sym (ap (λ xs. t.choices_of (map choice_view xs)) (items_shown-the_row-Choice-0 shape choices))) (elements_rows _ rest)

elements_hidden : (v : Vec Element Global) → elements_row (hidden-the_row-Element-1 v) ≡ t.elements_of (elements_view v)
elements_hidden v = elements_rows _ (hidden-the_row-Element-1 v) ∙ ap (λ xs. t.elements_of (map element_view xs)) (items_hidden-the_row-Element-1 v)

pub view_aggregate : (at : ℕ) (elements : Vec Element Global) → view (e.Aggregate at elements) ≡ t.aggregate at (t.elements_of (elements_view elements))
view_aggregate at elements = ap (t.aggregate at) (elements_hidden elements)

pub view_qualified : (mark : Identifier) (at : ℕ) (elements : Vec Element Global) → view (e.Qualified mark at elements) ≡ t.qualified (ident_view mark) at (t.elements_of (elements_view elements))
view_qualified mark at elements = ap (t.qualified (ident_view mark) at) (elements_hidden elements)

pub view_element : (choices : Vec Choice Global) (value : Expr) → element_view (roll-Element (record { choices = choices; value = value })) ≡ element_by (choices_view choices) (view value)
view_element choices value = ap (λ r. element_by (choices_view r.choices) (view r.value)) (out-roll-Element (record { choices = choices; value = value }))
