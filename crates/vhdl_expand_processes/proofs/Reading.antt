-- The names that values and conditions read are those of their parts, one after another.
use Rattle.std.proofs.Common.{◌≡◌, true, false, List, [], ◌∷◌, ◌++◌, Vec, Box, Global, refl, sym, ap, ◌∙◌}
use Rattle.std.specs.Prelude.{flat_map}
use Rattle.std.proofs.lemmas.List.{append_assoc, append-nil}
use Rattle.vhdl_names_trees.specs.declared.vector.Vector.TheVariants as v
use Rattle.vhdl_names_trees.specs.declared.vector.VectorElement.{VectorElement}
use Rattle.vhdl_names_trees.specs.declared.vector.VectorElement.TheVariants as el
use Rattle.vhdl_names_trees.specs.declared.vector.VectorLink.{VectorLink}
use Rattle.vhdl_names_trees.specs.declared.vector.VectorLink.TheVariants as l
use Rattle.vhdl_names_trees.specs.declared.vector.VectorStart.{VectorStart}
use Rattle.vhdl_names_trees.specs.declared.vector.Computed.TheVariants as m
use Rattle.vhdl_names_trees.specs.declared.vector.ComputedLink.{ComputedLink}
use Rattle.vhdl_names_trees.specs.declared.vector.ComputedStart.{ComputedStart}
use Rattle.vhdl_names_trees.specs.declared.test.Test.TheVariants as c
use Rattle.vhdl_names_trees.specs.declared.test.TestLink.{TestLink}
use Rattle.vhdl_names_trees.specs.declared.test.TestStart.{TestStart}
use Rattle.vhdl_names_trees.specs.views.Vectors.{computed_view, computed_start_view, computed_chained, vector_view, elements_view, linked, vector_chained}
use Rattle.vhdl_names_trees.specs.views.Vectors as vectors
use Rattle.vhdl_names_trees.specs.views.Tests.{test_view, test_chained}
use Rattle.vhdl_names_trees.specs.views.Tests as tests
use Rattle.vhdl_names_trees.proofs.rows.Vectors as vector_rows
use Rattle.vhdl_names_trees.proofs.rows.Tests as test_rows
use Rattle.vhdl_names_rules.specs.units.Expressions as u
use Rattle.vhdl_expand_rules.specs.Prefixes.{computed_names, vector_names, elements_names, test_names}
use Rattle.vhdl_expand_bodies.proofs.Aggregating.{is_last}
use Rattle.vhdl_expand_processes.proofs.Gathering.{adds_along}
use Rattle.vhdl_expand_processes.specs.declared.name.Gathered.{Gathered}
use Rattle.vhdl_expand_processes.specs.Adding.{Adds}
use Rattle.vhdl_expand_processes.specs.Names.{computed_link_names, element_names, link_names, test_link_names}

-- ---- chains of operators

linked-names : (left : u.Vector) (x : VectorLink) → vector_names (linked left x) ≡ vector_names left ++ link_names x
linked-names left (l.Vector op at x) = refl
linked-names left (l.Integer op at x) = sym (append-nil (vector_names left))
linked-names left (l.Computed op at x) = refl

chained-names : (left : u.Vector) (xs : List VectorLink) → vector_names (vector_chained left xs) ≡ vector_names left ++ flat_map link_names xs
chained-names left [] = sym (append-nil (vector_names left))
chained-names left (x ∷ xs) =
    chained-names (linked left x) xs ∙ ap (λ ps. ps ++ flat_map link_names xs) (linked-names left x)
    ∙ append_assoc (vector_names left) (link_names x) (flat_map link_names xs)

pub chain_names : (start : Box VectorStart Global) (links : Vec VectorLink Global)
    → vector_names (vector_view (v.Chain start links)) ≡ (vector_names (vector_view start.value.first) ++ link_names start.value.link) ++ flat_map link_names links.items
chain_names start links =
    ap vector_names (vector_rows.view_chain start links) ∙ chained-names (vectors.start_view start.value) links.items
    ∙ ap (λ ps. ps ++ flat_map link_names links.items) (linked-names (vector_view start.value.first) start.value.link)

computed-chained : (left : u.Computed) (xs : List ComputedLink) → computed_names (computed_chained left xs) ≡ computed_names left ++ flat_map computed_link_names xs
computed-chained left [] = sym (append-nil (computed_names left))
computed-chained left (x ∷ xs) =
    computed-chained (u.calculated x.at x.operator left (computed_view x.operand)) xs
    ∙ append_assoc (computed_names left) (computed_link_names x) (flat_map computed_link_names xs)

pub computed_chain_names : (start : Box ComputedStart Global) (links : Vec ComputedLink Global)
    → computed_names (computed_view (m.Chain start links)) ≡ computed_names (computed_start_view start.value) ++ flat_map computed_link_names links.items
computed_chain_names start links = ap computed_names (vector_rows.view_computed_chain start links) ∙ computed-chained (computed_start_view start.value) links.items

test-chained : (left : u.Test) (xs : List TestLink) → test_names (test_chained left xs) ≡ test_names left ++ flat_map test_link_names xs
test-chained left [] = sym (append-nil (test_names left))
test-chained left (x ∷ xs) =
    test-chained (u.Test.both x.operator left (test_view x.operand)) xs
    ∙ append_assoc (test_names left) (test_link_names x) (flat_map test_link_names xs)

pub test_chain_names : (start : Box TestStart Global) (links : Vec TestLink Global)
    → test_names (test_view (c.Chain start links)) ≡ (test_names (test_view start.value.first) ++ test_link_names start.value.link) ++ flat_map test_link_names links.items
test_chain_names start links = ap test_names (test_rows.view_chain start links) ∙ test-chained (tests.start_view start.value) links.items

-- ---- elements of an aggregate

pub elements_more : (x : VectorElement) (xs : List VectorElement) → is_last x ≡ false → elements_names (elements_view (x ∷ xs)) ≡ element_names x ++ elements_names (elements_view xs)
elements_more (el.Next x) xs h = refl
elements_more (el.Chosen is x) xs h = refl
elements_more (el.Others x) xs h = absurd cc

pub elements_last : (x : VectorElement) (xs : List VectorElement) → is_last x ≡ true → elements_names (elements_view (x ∷ xs)) ≡ element_names x
elements_last (el.Next x) xs h = absurd cc
elements_last (el.Chosen is x) xs h = absurd cc
elements_last (el.Others x) xs h = refl

-- ---- what the walk puts behind others

-- of a start and what follows it, which are those of a chain
pub chain_adds : {S K : Type 0} (of : S → List K → List u.SignalPart) (whole : List u.SignalPart) (begin start : S) (items ks : List K) (old new : Gathered)
    → whole ≡ of begin items → start ≡ begin → ks ≡ items → Adds old new (of start ks) → Adds old new whole
chain_adds {S} of whole begin start items ks old new h j k added =
    adds_along old new (of start ks) whole (h ∙ ap (λ (x : S). of x items) (sym j) ∙ ap (of start) (sym k)) added
