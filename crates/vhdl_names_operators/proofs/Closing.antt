-- Characters in parentheses.
use Rattle.std.proofs.Common.{◌≡◌, ℕ, refl}
use mathlib.Core.Former.{Count}
use Rattle.vhdl_values.specs.declared.scalar.Nine.{Nine}
use Rattle.vhdl_names_rules.specs.declared.kind.ElementKind.TheVariants.{Element}
use Rattle.vhdl_names_trees.specs.declared.vector.Vector.{Vector}
use Rattle.vhdl_names_trees.specs.declared.vector.Vector.TheVariants as v
use Rattle.vhdl_names_trees.specs.declared.vector.Chosen.TheBlock.{Row_of-VectorLink, end_of-VectorLink, more_of-VectorLink}
use Rattle.vhdl_names_trees.specs.declared.vector.VectorLink.{VectorLink}
use Rattle.vhdl_names_trees.specs.declared.vector.VectorLink.TheVariants as l
use Rattle.vhdl_names_rules.specs.Expressions as expressions
use Rattle.vhdl_names_rules.specs.Operators.{elements}
use Rattle.vhdl_names_rules.specs.units.Expressions as u
use Rattle.vhdl_names_trees.specs.views.Vectors.{vector_view, links_view, linked}
use Rattle.vhdl_names_operators.specs.Steps.{closed}

chain_kept : (left : u.Vector) (x : VectorLink) (n : Count) (row : Row_of-VectorLink n) → closed (links_view (linked left x) row) ≡ links_view (linked left x) row
chain_kept left (l.Vector op at y) n end_of-VectorLink = refl
chain_kept left (l.Integer op at s) n end_of-VectorLink = refl
chain_kept left (l.Computed op at y) n end_of-VectorLink = refl
chain_kept left x n (more_of-VectorLink y rest) = chain_kept (linked left x) y _ rest

pub no_character : (x : Vector) → ((at : ℕ) (c : Nine) → x ≡ v.Character at c → ⊥) → closed (vector_view x) ≡ vector_view x
no_character (v.Character at x) other = absurd (other at x refl)
no_character (v.Chain' b first x shape rest) other = chain_kept (vector_view first) x _ rest
no_character x other = refl

pub enclosed_element : (x : u.Vector) → expressions.enclosed (elements Element x) ≡ elements Element (closed x)
enclosed_element (u.of_signal p) = refl
enclosed_element x = refl
