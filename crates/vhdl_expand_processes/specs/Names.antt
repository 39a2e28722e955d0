-- The names that parts of values and conditions read, where the parts stand in lists.
use Rattle.std.specs.Prelude.{List, []}
use Rattle.vhdl_names_trees.specs.declared.vector.VectorElement.{VectorElement}
use Rattle.vhdl_names_trees.specs.declared.vector.VectorElement.TheVariants as el
use Rattle.vhdl_names_trees.specs.declared.vector.VectorLink.{VectorLink}
use Rattle.vhdl_names_trees.specs.declared.vector.VectorLink.TheVariants as l
use Rattle.vhdl_names_trees.specs.declared.test.TestLink.{TestLink}
use Rattle.vhdl_names_rules.specs.units.Expressions as u
use Rattle.vhdl_names_trees.specs.declared.vector.ComputedLink.{ComputedLink}
use Rattle.vhdl_names_trees.specs.views.Vectors.{computed_view, vector_view}
use Rattle.vhdl_names_trees.specs.views.Tests.{test_view}
use Rattle.vhdl_expand_rules.specs.Prefixes as definition

-- an element of an aggregate
abbrev pub element_names : VectorElement → List u.SignalPart
element_names (el.Next x) = definition.vector_names (vector_view x)
element_names (el.Chosen is x) = definition.vector_names (vector_view x)
element_names (el.Others x) = definition.vector_names (vector_view x)

-- a further operand of a chain
abbrev pub link_names : VectorLink → List u.SignalPart
link_names (l.Vector op at x) = definition.vector_names (vector_view x)
link_names (l.Integer op at s) = []
link_names (l.Computed op at x) = definition.computed_names (computed_view x)

abbrev pub computed_link_names : ComputedLink → List u.SignalPart
computed_link_names l = definition.computed_names (computed_view l.operand)

abbrev pub test_link_names : TestLink → List u.SignalPart
test_link_names l = definition.test_names (test_view l.operand)
