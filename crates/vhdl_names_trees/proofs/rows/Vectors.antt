-- The links of a vector in a `Vec`, as contracts see them.
use Rattle.std.proofs.Common.{◌≡◌, ℕ, List, [], ◌∷◌, ◌++◌, Vec, Box, Global, Option, refl, ap, ◌∙◌}
use mathlib.Core.Former.{Count}
use Rattle.vhdl_names_trees.specs.declared.vector.Vector.TheVariants as v
use Rattle.vhdl_names_trees.specs.declared.vector.Chosen.TheBlock.{Row_of-ComputedLink, end_of-ComputedLink, more_of-ComputedLink, items-the_row-ComputedLink, hidden-the_row-ComputedLink-0, items_hidden-the_row-ComputedLink-0, Row_of-VectorLink, end_of-VectorLink, more_of-VectorLink, items-the_row-VectorLink, hidden-the_row-VectorLink-1, items_hidden-the_row-VectorLink-1, Row_of-VectorElement, end_of-VectorElement, more_of-VectorElement, items-the_row-VectorElement, hidden-the_row-VectorElement-2, items_hidden-the_row-VectorElement-2}
use Rattle.vhdl_names_trees.specs.declared.vector.Computed.TheVariants as m
use Rattle.vhdl_names_trees.specs.declared.vector.ComputedLink.{ComputedLink}
use Rattle.vhdl_names_trees.specs.declared.vector.ComputedStart.{ComputedStart}
use Rattle.vhdl_names_trees.specs.declared.integer.StaticRange.{StaticRange}
use Rattle.vhdl_names_trees.specs.declared.vector.VectorElement.{VectorElement}
use Rattle.vhdl_names_trees.specs.declared.vector.VectorLink.{VectorLink}
use Rattle.vhdl_names_trees.specs.declared.vector.VectorStart.{VectorStart}
use Rattle.vhdl_names_rules.specs.units.Expressions as u
use Rattle.vhdl_names_trees.specs.views.Integers.{option_range_view}
use Rattle.vhdl_names_trees.specs.views.Vectors.{vector_view, start_view, links_view, linked, vector_chained, elements_row, with_element, elements_view, computed_view, computed_start_view, computed_links_view, computed_chained}

links_row : (left : u.Vector) (n : Count) (row : Row_of-VectorLink n) → links_view left row ≡ vector_chained left (items-the_row-VectorLink n row)
links_row left n end_of-VectorLink = refl
links_row left n (more_of-VectorLink x rest) = links_row (linked left x) _ rest

pub view_chain : (start : Box VectorStart Global) (rest : Vec VectorLink Global) → vector_view (v.Chain start rest) ≡ vector_chained (start_view start.value) rest.items
view_chain start rest = links_row (start_view start.value) _ (hidden-the_row-VectorLink-1 rest) ∙ ap (vector_chained (start_view start.value)) (items_hidden-the_row-VectorLink-1 rest)

vector_chained-push : (left : u.Vector) (xs : List VectorLink) (x : VectorLink) → vector_chained left (xs ++ x ∷ []) ≡ linked (vector_chained left xs) x
vector_chained-push left [] x = refl
vector_chained-push left (y ∷ xs) x = vector_chained-push (linked left y) xs x

-- one more link
pub chained-after : (left : u.Vector) (xs ys : List VectorLink) (x : VectorLink) → ys ≡ xs ++ x ∷ [] → vector_chained left ys ≡ linked (vector_chained left xs) x
chained-after left xs ys x h = ap (vector_chained left) h ∙ vector_chained-push left xs x

-- ---- elements of an aggregate

elements_rows : (n : Count) (row : Row_of-VectorElement n) → elements_row row ≡ elements_view (items-the_row-VectorElement n row)
elements_rows n end_of-VectorElement = refl
elements_rows n (more_of-VectorElement x rest) = ap (with_element x) (elements_rows _ rest)

pub view_aggregate : (at : ℕ) (range : Option (Box StaticRange Global)) (es : Vec VectorElement Global) → vector_view (v.Aggregate at range es) ≡ u.aggregate at (option_range_view range) (elements_view es.items)
view_aggregate at range es =
    ap (u.aggregate at (option_range_view range)) (elements_rows _ (hidden-the_row-VectorElement-2 es) ∙ ap elements_view (items_hidden-the_row-VectorElement-2 es))

-- ---- operators on integers that a run computes

computed_links_row : (left : u.Computed) (n : Count) (row : Row_of-ComputedLink n) → computed_links_view left row ≡ computed_chained left (items-the_row-ComputedLink n row)
computed_links_row left n end_of-ComputedLink = refl
computed_links_row left n (more_of-ComputedLink op at operand rest) = computed_links_row (u.calculated at op left (computed_view operand)) _ rest

pub view_computed_chain : (start : Box ComputedStart Global) (rest : Vec ComputedLink Global) → computed_view (m.Chain start rest) ≡ computed_chained (computed_start_view start.value) rest.items
view_computed_chain start rest = computed_links_row (computed_start_view start.value) _ (hidden-the_row-ComputedLink-0 rest) ∙ ap (computed_chained (computed_start_view start.value)) (items_hidden-the_row-ComputedLink-0 rest)

computed_chained-push : (left : u.Computed) (xs : List ComputedLink) (x : ComputedLink) → computed_chained left (xs ++ x ∷ []) ≡ u.calculated x.at x.operator (computed_chained left xs) (computed_view x.operand)
computed_chained-push left [] x = refl
computed_chained-push left (y ∷ xs) x = computed_chained-push (u.calculated y.at y.operator left (computed_view y.operand)) xs x

-- one more link
pub computed_chained-after : (left : u.Computed) (xs ys : List ComputedLink) (x : ComputedLink) → ys ≡ xs ++ x ∷ [] → computed_chained left ys ≡ u.calculated x.at x.operator (computed_chained left xs) (computed_view x.operand)
computed_chained-after left xs ys x h = ap (computed_chained left) h ∙ computed_chained-push left xs x
