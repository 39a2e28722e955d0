-- What a chain of operators is not: a name, a literal, an object.
use Rattle.std.proofs.Common.{◌≡◌, List, [], ◌∷◌, Option, None, Box, Vec, Global, refl, ap, ◌∙◌}
use Rattle.vhdl_names_trees.specs.declared.vector.Computed.TheVariants as m
use Rattle.vhdl_names_trees.specs.declared.vector.ComputedLink.{ComputedLink}
use Rattle.vhdl_names_trees.specs.declared.vector.ComputedStart.{ComputedStart}
use Rattle.vhdl_names_trees.specs.declared.vector.Vector.TheVariants as v
use Rattle.vhdl_names_trees.specs.declared.vector.VectorLink.{VectorLink}
use Rattle.vhdl_names_trees.specs.declared.vector.VectorLink.TheVariants as l
use Rattle.vhdl_names_trees.specs.declared.vector.VectorStart.{VectorStart}
use Rattle.vhdl_names_trees.specs.views.Vectors.{vector_view, linked, vector_chained, computed_view, computed_chained, computed_start_view}
use Rattle.vhdl_names_trees.specs.views.Vectors as vectors
use Rattle.vhdl_names_rules.specs.units.Expressions as u
use Rattle.vhdl_names_trees.proofs.rows.Vectors.{view_chain, view_computed_chain}
use Rattle.vhdl_expand_rules.specs.Computed.{Number, integers}
use Rattle.vhdl_expand_rules.specs.Statements.{may_choose}
use Rattle.vhdl_expand_choices.specs.Compared.{name_in, character_in}

-- what is nothing of one link is nothing of a chain
chain-none : {A : Type 0} (in' : u.Vector → Option A) → ((x : u.Vector) (k : VectorLink) → in' (linked x k) ≡ None) → (start : Box VectorStart Global) (links : Vec VectorLink Global)
    → in' (vector_view (v.Chain start links)) ≡ None
chain-none {A} in' one start links = ap in' (view_chain start links) ∙ links-none (vectors.start_view start.value) links.items (one (vector_view start.value.first) start.value.link)
  where
    links-none : (x : u.Vector) (ks : List VectorLink) → in' x ≡ None → in' (vector_chained x ks) ≡ None
    links-none x [] h = h
    links-none x (k ∷ ks) h = links-none (linked x k) ks (one x k)

linked-no_name : (x : u.Vector) (k : VectorLink) → name_in (linked x k) ≡ None
linked-no_name x (l.Vector op pos y) = refl
linked-no_name x (l.Integer op pos s) = refl
linked-no_name x (l.Computed op pos y) = refl

pub chain_is_no_name : (start : Box VectorStart Global) (links : Vec VectorLink Global) → name_in (vector_view (v.Chain start links)) ≡ None
chain_is_no_name start links = chain-none name_in linked-no_name start links

linked-no_character : (x : u.Vector) (k : VectorLink) → character_in (linked x k) ≡ None
linked-no_character x (l.Vector op pos y) = refl
linked-no_character x (l.Integer op pos s) = refl
linked-no_character x (l.Computed op pos y) = refl

pub chain_is_no_character : (start : Box VectorStart Global) (links : Vec VectorLink Global) → character_in (vector_view (v.Chain start links)) ≡ None
chain_is_no_character start links = chain-none character_in linked-no_character start links

-- choices beside a chain may be any integers
chained-any : (n : Number) (x : u.Computed) (ks : List ComputedLink) → may_choose x n ≡ integers → may_choose (computed_chained x ks) n ≡ integers
chained-any n x [] h = h
chained-any n x (k ∷ ks) h = chained-any n (u.calculated k.at k.operator x (computed_view k.operand)) ks refl

pub chain_is_no_object : (n : Number) (start : Box ComputedStart Global) (links : Vec ComputedLink Global) → may_choose (computed_view (m.Chain start links)) n ≡ integers
chain_is_no_object n start links = ap (λ x. may_choose x n) (view_computed_chain start links) ∙ chained-any n (computed_start_view start.value) links.items refl
