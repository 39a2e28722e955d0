use Rattle.std.proofs.Common.{not, sym, ap, ◌∙◌}
use Rattle.std.specs.Prelude.{is_some}
use Rattle.vhdl_names_trees.specs.views.Tests.{test_view}
use Rattle.vhdl_names_registers.specs.Looking.{edge_named}
use Rattle.vhdl_names_registers.specs.Taking.{edge_taken}
use Rattle.vhdl_names_registers.specs.Views.{edge_view, tests_view}
use Rattle.vhdl_names_registers.proofs.Parting.{mapped_is_some}
use Rattle.vhdl_names_registers.proofs.Taking.{only_first, waits_for_level, waits_for_edge}
use Rattle.vhdl_names_registers.proofs.conditions.waited_edge.Goals as goal

pub returns-then-is_none : goal.returns-then-is_none
returns-then-is_none c =
    let told = ap is_some (sym c.edge_of.ensures) ∙ (mapped_is_some edge_named c.edge_of.result ∙ (c.is_none.ensures ∙ ap not c.if-is_none.true)) in
    c.waited_level.ensures ∙ waits_for_level (test_view c.args.condition) told

pub returns : goal.returns
returns c =
    let told = ap is_some (sym c.edge_of.ensures) ∙ (mapped_is_some edge_named c.edge_of.result ∙ (c.is_none.ensures ∙ ap not c.if-is_none.false)) in
    only_first edge_view (tests_view c.take_edge.new.all) c.take_edge.result
    ∙ waits_for_edge (test_view c.args.condition) _ told (c.take_edge.ensures ∙ ap edge_taken c.in_ok-all.ensures)
