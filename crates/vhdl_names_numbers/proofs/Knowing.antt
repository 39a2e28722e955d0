-- Which values name no signal and no variable: chains of operators, and elements of an aggregate.
use Rattle.std.proofs.Common.{◌≡◌, ℕ, ◌+◌, ◌<◌, ◌≤◌, Bool, true, false, List, [], ◌∷◌, length, get_or, drop, Vec, Box, Global, Option, refl, sym, ap, ◌∙◌}
use Rattle.std.proofs.lemmas.List.{at_drop_more, at_drop_all}
use Rattle.std.specs.Prelude.{◌&&◌, ◌||◌}
use Rattle.std.specs.List.{list_all}
use Rattle.vhdl_names_trees.specs.declared.integer.StaticRange.{StaticRange}
use Rattle.vhdl_names_trees.specs.declared.vector.Vector.TheVariants as v
use Rattle.vhdl_names_trees.specs.declared.vector.VectorElement.{VectorElement}
use Rattle.vhdl_names_trees.specs.declared.vector.VectorElement.TheVariants as e
use Rattle.vhdl_names_trees.specs.declared.vector.VectorLink.{VectorLink}
use Rattle.vhdl_names_trees.specs.declared.vector.VectorLink.TheVariants as l
use Rattle.vhdl_names_trees.specs.declared.vector.VectorStart.{VectorStart}
use Rattle.vhdl_names_rules.specs.units.Expressions as u
use Rattle.vhdl_names_rules.specs.Known.{is_known, are_known}
use Rattle.vhdl_names_trees.specs.views.Vectors.{vector_view, start_view, linked, with_element, vector_chained, elements_view}
use Rattle.vhdl_names_trees.proofs.rows.Vectors.{view_chain, view_aggregate}
use Rattle.vhdl_names_numbers.specs.Knowing.{link_is_known, element_is_known, is_others}

pub and_true : (b : Bool) → b ≡ b && true
and_true true = refl
and_true false = refl

pub and_false : (b : Bool) → false ≡ b && false
and_false true = refl
and_false false = refl

and_assoc : (b c d : Bool) → (b && c) && d ≡ b && (c && d)
and_assoc true c d = refl
and_assoc false c d = refl

pub linked_known : (left : u.Vector) (x : VectorLink) → is_known (linked left x) ≡ is_known left && link_is_known x
linked_known left (l.Vector op at x) = refl
linked_known left (l.Integer op at s) = and_true (is_known left)
linked_known left (l.Computed op at x) = and_false (is_known left)

chained_known : (left : u.Vector) (xs : List VectorLink) → is_known (vector_chained left xs) ≡ is_known left && list_all link_is_known xs
chained_known left [] = and_true (is_known left)
chained_known left (x ∷ xs) =
    chained_known (linked left x) xs ∙ ap (λ b. b && list_all link_is_known xs) (linked_known left x)
    ∙ and_assoc (is_known left) (link_is_known x) (list_all link_is_known xs)

pub is_known_chain : (start : Box VectorStart Global) (rest : Vec VectorLink Global) →
    is_known (vector_view (v.Chain start rest)) ≡ is_known (start_view start.value) && list_all link_is_known rest.items
is_known_chain start rest = ap is_known (view_chain start rest) ∙ chained_known (start_view start.value) rest.items

pub is_known_aggregate : (at : ℕ) (range : Option (Box StaticRange Global)) (es : Vec VectorElement Global) →
    is_known (vector_view (v.Aggregate at range es)) ≡ are_known (elements_view es.items)
is_known_aggregate at range es = ap is_known (view_aggregate at range es)

-- ---- elements one by one

first_known : (x : VectorElement) (rest : u.Elements) → are_known (with_element x rest) ≡ element_is_known x && (is_others x || are_known rest)
first_known (e.Next x) rest = refl
first_known (e.Chosen is x) rest = refl
first_known (e.Others x) rest = and_true (is_known (vector_view x))

pub next_known : (es : List VectorElement) (i : ℕ) (x : VectorElement) → i < length es → x ≡ get_or es i x →
    are_known (elements_view (drop i es)) ≡ element_is_known x && (is_others x || are_known (elements_view (drop (i + 1) es)))
next_known es i x lt is =
    at_drop_more (λ xs. are_known (elements_view xs)) es i x lt ∙ first_known (get_or es i x) (elements_view (drop (i + 1) es))
    ∙ ap (λ y. element_is_known y && (is_others y || are_known (elements_view (drop (i + 1) es)))) (sym is)

pub none_known : (es : List VectorElement) (i : ℕ) → length es ≤ i → are_known (elements_view (drop i es)) ≡ true
none_known es i past = at_drop_all (λ xs. are_known (elements_view xs)) es i past
