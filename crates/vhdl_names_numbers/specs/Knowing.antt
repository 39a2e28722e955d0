-- Which operands name no signal and no variable.
use Rattle.std.specs.Prelude.{Bool, true, false}
use Rattle.vhdl_names_rules.specs.Known.{is_known}
use Rattle.vhdl_names_trees.specs.views.Vectors.{vector_view}
use Rattle.vhdl_names_trees.specs.declared.vector.VectorLink.{VectorLink}
use Rattle.vhdl_names_trees.specs.declared.vector.VectorLink.TheVariants as l
use Rattle.vhdl_names_trees.specs.declared.vector.VectorElement.{VectorElement}
use Rattle.vhdl_names_trees.specs.declared.vector.VectorElement.TheVariants as e

-- the right operand of an operator
abbrev pub link_is_known : VectorLink → Bool
link_is_known (l.Vector op at x) = is_known (vector_view x)
link_is_known (l.Integer op at s) = true
link_is_known (l.Computed op at x) = false

-- the value of an element
abbrev pub element_is_known : VectorElement → Bool
element_is_known (e.Next x) = is_known (vector_view x)
element_is_known (e.Chosen is x) = is_known (vector_view x)
element_is_known (e.Others x) = is_known (vector_view x)

-- behind an element for all others none is seen
abbrev pub is_others : VectorElement → Bool
is_others (e.Others x) = true
is_others _ = false
