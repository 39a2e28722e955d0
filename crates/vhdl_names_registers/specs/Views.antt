-- Edges and conditions of the code.
use Rattle.std.specs.Prelude.{List, map, Vec}
use Rattle.std.specs.Global.{Global}
use Rattle.vhdl_names_trees.specs.declared.test.Test.{Test as CodeTest}
use Rattle.vhdl_names_rules.specs.units.Expressions.{Test}
use Rattle.vhdl_names_trees.specs.views.Tests.{test_view}
use Rattle.vhdl_names_trees.specs.views.Vectors.{place_view}
use Rattle.vhdl_names_rules.specs.Edges as edges
use Rattle.vhdl_names_registers.specs.declared.conditions.Edge.{Edge}
use Rattle.vhdl_names_registers.specs.declared.conditions.Gated.{Gated}

abbrev pub edge_view : Edge → edges.Edge
edge_view e = edges.edge e.kind (place_view e.place)

abbrev pub tests_view : Vec CodeTest Global → List Test
tests_view v = map test_view v.items

abbrev pub gated_view : Gated → edges.Edge × Test
gated_view g = (edge_view g.edge, test_view g.gate)
