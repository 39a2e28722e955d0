use Rattle.std.proofs.Common.{sym, ap, ◌∙◌}
use Rattle.vhdl_names_rules.specs.units.Statements as s
use Rattle.vhdl_names_trees.specs.views.Tests.{test_view}
use Rattle.vhdl_names_rules.specs.Statements.{alone}
use Rattle.vhdl_names_rules.specs.Edges.{conditions, gated, at_edge}
use Rattle.vhdl_names_rules.specs.Registers as rules
use Rattle.vhdl_names_trees.specs.declared.test.Test.{Test}
use Rattle.vhdl_names_units.specs.views.Sequential.{Guarded, body_view}
use Rattle.vhdl_names_registers.specs.Looking.{is_gated}
use Rattle.vhdl_names_registers.specs.Views.{edge_view}
use Rattle.vhdl_names_registers.proofs.Firsts.{alone_of, ungated, gated_first}
use Rattle.vhdl_names_registers.proofs.ifs.edge_first.Goals as goal

pub returns-then-not-is_gated : goal.returns-then-not-is_gated
returns-then-not-is_gated c =
    let b = c.args.branch in
    sym (ungated c.args.at (test_view b.condition) (body_view b.statements) (gated (conditions (test_view b.condition))) (sym c.is_gated.ensures ∙ c.if-not-is_gated.true))

pub edge_and_gate-requires : goal.edge_and_gate-requires
edge_and_gate-requires c =
    ap (λ (t : Test). is_gated (test_view t)) c.into_parts-condition.ensures.condition ∙ (sym c.is_gated.ensures ∙ c.if-not-is_gated.false)

pub returns : goal.returns
returns c =
    let at = c.args.at in
    let e = edge_view c.in_ok-edge.field-0.edge in
    let gate = test_view c.in_ok-edge.field-0.gate in
    let parts = c.into_parts-condition in
    ap alone_of c.new-2.ensures
    ∙ (ap (at_edge e) c.in_ok-inner.ensures
    ∙ (ap (λ (g : Guarded). at_edge e (alone (s.if_of at (alone_of g)))) c.new.ensures
    ∙ (gated_first at (test_view parts.result.0) (body_view parts.result.1) e gate
    (ap (λ (t : Test). is_gated (test_view t)) parts.ensures.condition ∙ (sym c.is_gated.ensures ∙ c.if-not-is_gated.false)) c.in_ok-edge.ensures
    ∙ (λ i. rules.edge_first at (test_view (parts.ensures.condition i)) (body_view (parts.ensures.statements i))))))
