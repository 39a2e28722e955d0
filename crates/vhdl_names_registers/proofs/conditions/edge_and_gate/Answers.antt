use Rattle.std.proofs.Common.{◌≡◌, Some, sym, ap, ◌∙◌}
use Rattle.std.specs.Prelude.{is_some, option_map}
use Rattle.vhdl_names_trees.specs.views.Tests.{test_view}
use Rattle.vhdl_names_rules.specs.Edges.{conditions}
use Rattle.vhdl_names_registers.specs.declared.conditions.Edge.{Edge}
use Rattle.vhdl_names_registers.specs.Taking.{edge_taken}
use Rattle.vhdl_names_registers.specs.Views.{edge_view, tests_view}
use Rattle.vhdl_names_registers.proofs.Parting.{mapped_is_some}
use Rattle.vhdl_names_registers.proofs.Taking.{gate_is_taken, taken_is_some, joined_is_some}
use Rattle.vhdl_names_registers.proofs.conditions.edge_and_gate.Goals as goal

pub unwrap-edge-requires : goal.unwrap-edge-requires
unwrap-edge-requires c =
    sym (mapped_is_some _ c.take_edge.result)
    ∙ (ap is_some (c.take_edge.ensures ∙ ap edge_taken c.in_ok-all.ensures) ∙ taken_is_some (conditions (test_view c.args.test)) c.requires)

pub unwrap-gate-requires : goal.unwrap-gate-requires
unwrap-gate-requires c =
    let all = tests_view c.take_edge.new.all in
    let e = edge_view c.unwrap-edge.result in
    let ts = conditions (test_view c.args.test) in
    let is : Some (e, all) ≡ edge_taken ts =
    sym (ap (option_map (λ (e : Edge). (edge_view e, all))) c.unwrap-edge.ensures) ∙ (c.take_edge.ensures ∙ ap edge_taken c.in_ok-all.ensures) in
    sym (mapped_is_some test_view c.in_ok-joined.field-0) ∙ (ap is_some c.in_ok-joined.ensures ∙ joined_is_some ts all e c.requires is)

pub returns : goal.returns
returns c =
    let all = tests_view c.take_edge.new.all in
    gate_is_taken (conditions (test_view c.args.test)) all (edge_view c.unwrap-edge.result) (test_view c.unwrap-gate.result)
    (sym (ap (option_map (λ (e : Edge). (edge_view e, all))) c.unwrap-edge.ensures) ∙ (c.take_edge.ensures ∙ ap edge_taken c.in_ok-all.ensures))
    (sym (ap (option_map test_view) c.unwrap-gate.ensures) ∙ c.in_ok-joined.ensures)
